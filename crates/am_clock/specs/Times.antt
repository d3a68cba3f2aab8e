-- Blocks of marking, their colours, and which block a record belongs to (RFC 9341, sections 3.1 and 5). All times are nanoseconds.
use Rattle.std.specs.Prelude.{◌≡◌, ℕ, ◌+◌, ◌-◌, ◌*◌, ◌/◌, ◌%◌, ◌<◌, ◌≤◌, Bool, true, false, ◌&&◌, ◌==◌, nat_le, nat_lt}
use Rattle.am_clock.specs.declared.timing.TheConstants.{MAX_TIME}

-- the four numbers of a timing: how long a block lasts, how far two clocks may differ, and the bounds of the delay
pub record Times : Type 0 where
  pub block : ℕ
  pub skew : ℕ
  pub delay_min : ℕ
  pub delay_max : ℕ

-- the four numbers together
abbrev pub times_of : ℕ → ℕ → ℕ → ℕ → Times
times_of block skew delay_min delay_max =
    record { block = block; skew = skew; delay_min = delay_min; delay_max = delay_max }

-- half a block
abbrev pub half : Times → ℕ
half t = t.block / 2

-- the guard band `d = A + Dmax - Dmin` (RFC 9341, section 5)
abbrev pub guard : Times → ℕ
guard t = t.skew + (t.delay_max - t.delay_min)

-- four numbers are a timing: blocks are even and not too long, the delay's bounds are in order, and the guard band is below half a block
pub record IsTiming (t : Times) : Type 0 where
  pub nonzero : 0 < t.block
  pub even : t.block % 2 ≡ 0
  pub short : t.block ≤ MAX_TIME
  pub near : t.delay_max ≤ MAX_TIME
  pub in_order : t.delay_min ≤ t.delay_max
  pub guarded : guard t < half t

-- a colour as the parity that its blocks have: true is 1
abbrev pub parity : Bool → ℕ
parity true = 1
parity false = 0

-- a packet that is marked at this reading is marked in this block
pub record IsMarkedIn (t : Times) (reading number : ℕ) : Type 0 where
  pub from : number * t.block ≤ reading
  pub until : reading < number * t.block + t.block

-- the window of a block at a node of this shift holds the reading: from half a block before the block begins until half a block after it ends, both later by the shift
abbrev pub in_window : Times → ℕ → ℕ → ℕ → Bool
in_window t reading shift number =
    nat_le (number * t.block + shift) (reading + half t) && nat_lt reading (number * t.block + t.block + half t + shift)

-- a record of this reading and colour belongs to this block at a node of this shift: the block has the record's colour, and its window holds the reading
abbrev pub belongs_to : Times → ℕ → Bool → ℕ → ℕ → Bool
belongs_to t reading colour shift number = number % 2 == parity colour && in_window t reading shift number
