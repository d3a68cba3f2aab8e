-- Which blocks a span of readings covers at a node: those whose windows lie in it (the windows are those of RFC 9341, section 5). All times are nanoseconds.
use Rattle.std.specs.Prelude.{◌≡◌, ℕ, ◌+◌, ◌*◌, ◌<◌, ◌≤◌, IsTrue}
use Rattle.am_clock.specs.Times.{Times, half, in_window}

-- No reading is below 0. So of a window that begins before 0, as that of block 0 does where the shift is below half a block,
-- only the readings from 0 on count.

-- the block's window, at a node of this shift, holds no reading before the span begins
abbrev pub StartsIn : Times → ℕ → ℕ → ℕ → Type 0
StartsIn t from shift number = (reading : ℕ) → IsTrue (in_window t reading shift number) → from ≤ reading

-- the block's window, at a node of this shift, holds no reading at or after the end of the span
abbrev pub EndsIn : Times → ℕ → ℕ → ℕ → Type 0
EndsIn t until shift number = (reading : ℕ) → IsTrue (in_window t reading shift number) → reading < until

-- the span covers the block at a node of this shift: each reading of the block's window is in the span
abbrev pub IsCovered : Times → ℕ → ℕ → ℕ → ℕ → Type 0
IsCovered t from until shift number =
    (reading : ℕ) → IsTrue (in_window t reading shift number) → (from ≤ reading) × (reading < until)

-- this is the first block whose window begins at the reading or behind it; for reading 0 it is block 0, wherever its window begins
pub record IsFirstFrom (t : Times) (reading shift number : ℕ) : Type 0 where
  pub start : reading ≡ 0 → number ≡ 0
  pub reached : 0 < reading → reading + half t ≤ number * t.block + shift
  pub least : 0 < number → number * t.block + shift < reading + half t + t.block

-- so many blocks, from block 0 on, have windows that end at the reading or before it
pub record IsCountUntil (t : Times) (reading shift count : ℕ) : Type 0 where
  pub within : 0 < count → count * t.block + half t + shift ≤ reading
  pub most : reading < count * t.block + t.block + half t + shift
