-- The epoch of a reading, and the block that a colour means in it. All times are nanoseconds.
use Rattle.std.specs.Prelude.{◌≡◌, ℕ, ◌+◌, ◌*◌, ◌%◌, ◌<◌, ◌≤◌, Bool, Option, Some, None}
use Rattle.am_clock.specs.Times.{Times, half, parity}

-- this is the last block whose window, at a node of this shift, has begun at the reading
pub record IsEpoch (t : Times) (reading shift number : ℕ) : Type 0 where
  pub from : number * t.block + shift ≤ reading + half t
  pub until : reading + half t < number * t.block + t.block + shift

-- the colour means this block in the epoch: of the epoch and the one before, the one that has the colour
abbrev pub Means : ℕ → Bool → Option ℕ → Type 0
Means epoch colour (Some number) = (number % 2 ≡ parity colour) × (number ≤ epoch) × (epoch ≤ number + 1)
Means epoch colour None = (epoch ≡ 0) × (parity colour ≡ 1)
