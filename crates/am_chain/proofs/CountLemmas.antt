-- What a record more counts.
use Rattle.std.proofs.Common.{◌≡◌, ℕ, ◌+◌, ◌≤◌, List, [], ◌∷◌, ◌++◌, length, cond, arith}
use Rattle.std.proofs.lemmas.List.Sums.{sum_by-append, count_by-le-length}
use Rattle.am_clock.specs.Times.{Times}
use Rattle.am_chain.specs.Counting.{one_in}
use Rattle.am_meter.specs.declared.stream.Marked.{Marked}
use Rattle.am_meter.specs.Metering.{counts_in}
use Rattle.am_chain.specs.Tables.{count_in}

-- a record more counts one more, or none
pub count_in-append :
    (t : Times) (flow shift : ℕ) (ms : List Marked) (m : Marked) (block : ℕ)
    → count_in t flow shift (ms ++ m ∷ []) block ≡ count_in t flow shift ms block + one_in t flow shift block m
count_in-append t flow shift ms m block =
    let e : count_in t flow shift (ms ++ m ∷ []) block ≡ count_in t flow shift ms block + (0 + one_in t flow shift block m) =
    sum_by-append (λ (x : Marked). cond (counts_in t flow shift block x) 1 0) ms (m ∷ []) in
    omega (arith, e)

-- a count is no more than there are records
pub count_in-few : (t : Times) (flow shift : ℕ) (ms : List Marked) (block : ℕ) → count_in t flow shift ms block ≤ length ms
count_in-few t flow shift ms block = count_by-le-length (counts_in t flow shift block) ms
