-- A chunk of bytes, of which some are held.
use Rattle.std.specs.Prelude.{◌≡◌, ℕ, ◌-◌, ◌≤◌, List, length, take, drop}

-- the bytes of a chunk from one place to another
abbrev pub held_in : List ℕ → ℕ → ℕ → List ℕ
held_in chunk from end = take (end - from) (drop from chunk)

-- the places are in order, and within the chunk
pub record IsHeld (chunk : List ℕ) (from end : ℕ) : Type 0 where
  pub ordered : from ≤ end
  pub within : end ≤ length chunk
  pub room : length chunk ≡ 65536
