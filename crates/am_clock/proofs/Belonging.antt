-- A record belongs to one block at most: the one that its colour means in its epoch.
use Rattle.std.proofs.Common.{arith, ◌≡◌, ℕ, ◌+◌, ◌*◌, ◌%◌, ◌<◌, ◌≤◌, Bool, Option, Some, None, IsTrue}
use Rattle.am_clock.specs.Times.{Times, half, IsTiming, parity, belongs_to}
use Rattle.am_clock.specs.Epochs.{IsEpoch, Means}

-- a block that begins no later than another ends is not above it
pub begins_by : (m n block : ℕ) → m * block < n * block + block → m ≤ n
begins_by m n block h = grind arith

-- two whole halves are a block
halves : (t : Times) → IsTiming t → half t + half t ≡ t.block
halves t timing = omega (arith, timing.even)

-- the window of a block that a record belongs to has begun by the epoch, and ended by no epoch before it
near_epoch :
    (t : Times) (reading : ℕ) (colour : Bool) (shift epoch n : ℕ)
    → IsTiming t → IsEpoch t reading shift epoch → IsTrue (belongs_to t reading colour shift n)
    → (n % 2 ≡ parity colour) × (n ≤ epoch) × (epoch ≤ n + 1)
near_epoch t reading colour shift epoch n timing at belongs =
    grind (arith, begins_by n epoch t.block, begins_by epoch (n + 1) t.block, halves t timing)

-- the block that a record belongs to is the one that its colour means in its epoch
pub belongs-means :
    (t : Times) (reading : ℕ) (colour : Bool) (shift epoch n : ℕ) (o : Option ℕ)
    → IsTiming t → IsEpoch t reading shift epoch → Means epoch colour o
    → IsTrue (belongs_to t reading colour shift n) → o ≡ Some n
belongs-means t reading colour shift epoch n None timing at meant belongs =
    let near : (n % 2 ≡ parity colour) × (n ≤ epoch) × (epoch ≤ n + 1) = near_epoch t reading colour shift epoch n timing at belongs
    in grind arith
belongs-means t reading colour shift epoch n (Some m) timing at meant belongs =
    let near : (n % 2 ≡ parity colour) × (n ≤ epoch) × (epoch ≤ n + 1) = near_epoch t reading colour shift epoch n timing at belongs
    in grind arith

-- a record belongs to one block at most, by the windows alone
pub belongs-one :
    (t : Times) (reading : ℕ) (colour : Bool) (shift m n : ℕ)
    → IsTiming t → IsTrue (belongs_to t reading colour shift m) → IsTrue (belongs_to t reading colour shift n) → m ≡ n
belongs-one t reading colour shift m n timing one other =
    grind (arith, begins_by m (n + 1) t.block, begins_by n (m + 1) t.block, halves t timing)
