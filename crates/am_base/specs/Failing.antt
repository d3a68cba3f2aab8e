-- Which calls of a shelf or a sink in memory fail, and what the counts are after an answer.
use Rattle.std.specs.Prelude.{ℕ, ◌==◌, Bool, List, Result, Ok, Err, if◌then◌else◌}
use Rattle.std.specs.List.{list_any}
use Rattle.am_base.specs.Counts.{next_count}
use Rattle.am_base.specs.declared.shelf.OpenError.{OpenError}
use Rattle.am_base.specs.declared.shelf.OpenError.TheVariants.{Missing, Failed}

-- the call of this number is one of those that fail
abbrev pub is_bad : List ℕ → ℕ → Bool
is_bad numbers number = list_any (λ n. n == number) numbers

-- the count of faults after a read or a write with this answer
abbrev pub faults_after : {T E : Type 0} → Result T E → ℕ → ℕ
faults_after (Ok _) n = n
faults_after (Err _) n = next_count n

-- and after the write of a piece that isn't empty: that no byte was taken counts as a fault
abbrev pub faults_after_write : {E : Type 0} → Result ℕ E → ℕ → ℕ
faults_after_write (Ok taken) n = if taken == 0 then next_count n else n
faults_after_write (Err _) n = next_count n

-- the counts after an open with this answer
abbrev pub faults_after_open : {T : Type 0} → Result T OpenError → ℕ → ℕ
faults_after_open (Ok _) n = n
faults_after_open (Err Missing) n = n
faults_after_open (Err Failed) n = next_count n

abbrev pub missed_after_open : {T : Type 0} → Result T OpenError → ℕ → ℕ
missed_after_open (Ok _) n = n
missed_after_open (Err Missing) n = next_count n
missed_after_open (Err Failed) n = n
