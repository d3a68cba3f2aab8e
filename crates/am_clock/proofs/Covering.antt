-- Which blocks a span of readings covers, by where their windows begin and end.
use Rattle.std.proofs.Common.{arith, ℕ, ◌+◌, ◌-◌, ◌*◌, ◌<◌, ◌≤◌, ◌↔◌, IsTrue}
use Rattle.std.proofs.lemmas.Bool.Decides.{nat_tests}
use Rattle.am_clock.specs.Times.{Times, half, IsTiming, in_window}
use Rattle.am_clock.specs.Covered.{StartsIn, EndsIn, IsCovered, IsFirstFrom, IsCountUntil}
use Rattle.am_clock.proofs.Belonging.{begins_by}

-- blocks begin in their order
in_order : (m n block : ℕ) → m ≤ n → m * block ≤ n * block
in_order m n block h = grind arith

-- a window begins with a reading of its own, which is 0 where the window would begin before
begins : (t : Times) (shift n : ℕ) → IsTiming t → IsTrue (in_window t (n * t.block + shift - half t) shift n)
begins t shift n timing = grind (arith, nat_tests)

-- a window ends with a reading of its own
ends : (t : Times) (shift n : ℕ) → IsTiming t → IsTrue (in_window t (n * t.block + t.block + half t + shift - 1) shift n)
ends t shift n timing = grind (arith, nat_tests)

-- from the first block on, no reading of a window is before the span
late :
    (t : Times) (from shift first n reading : ℕ) → IsFirstFrom t from shift first → first ≤ n
    → IsTrue (in_window t reading shift n) → from ≤ reading
late t from shift first n reading is behind inside = grind (arith, in_order first n t.block behind)

-- a block whose window has no reading before the span isn't before the first block
not_before :
    (t : Times) (from shift first n : ℕ) → IsTiming t → IsFirstFrom t from shift first → StartsIn t from shift n → first ≤ n
not_before t from shift first n timing is starts =
    let reading : from ≤ n * t.block + shift - half t = starts _ (begins t shift n timing)
    in grind (arith, begins_by first n t.block)

-- the blocks whose windows have no reading before the span are those from the first block on
pub starts-in :
    (t : Times) (from shift first n : ℕ) → IsTiming t → IsFirstFrom t from shift first → (first ≤ n) ↔ StartsIn t from shift n
starts-in t from shift first n timing is =
    ((λ behind reading inside. late t from shift first n reading is behind inside), (λ starts. not_before t from shift first n timing is starts))

-- below the count, no reading of a window is at or after the end of the span
early :
    (t : Times) (until shift count n reading : ℕ) → IsCountUntil t until shift count → n < count
    → IsTrue (in_window t reading shift n) → reading < until
early t until shift count n reading is below inside = grind (arith, in_order (n + 1) count t.block (omega arith))

-- a block whose window has no reading at or after the end of the span is below the count
below_count :
    (t : Times) (until shift count n : ℕ) → IsTiming t → IsCountUntil t until shift count → EndsIn t until shift n → n < count
below_count t until shift count n timing is inside =
    let last : n * t.block + t.block + half t + shift - 1 < until = inside _ (ends t shift n timing)
    in grind (arith, begins_by (n + 1) count t.block)

-- the blocks whose windows have no reading at or after the end of the span are those below the count
pub ends-in :
    (t : Times) (until shift count n : ℕ) → IsTiming t → IsCountUntil t until shift count → (n < count) ↔ EndsIn t until shift n
ends-in t until shift count n timing is =
    ((λ below reading inside. early t until shift count n reading is below inside), (λ inside. below_count t until shift count n timing is inside))

-- a span covers the blocks whose windows neither begin before it nor end behind it
pub covers :
    (t : Times) (from until shift first count n : ℕ)
    → (first ≤ n) ↔ StartsIn t from shift n → (n < count) ↔ EndsIn t until shift n
    → ((first ≤ n) × (n < count)) ↔ IsCovered t from until shift n
covers t from until shift first count n starts ends = (
  (λ within reading inside. (starts.0 within.0 reading inside, ends.0 within.1 reading inside)),
  (λ inside. (starts.1 (λ reading at. (inside reading at).0), ends.1 (λ reading at. (inside reading at).1))),
)
