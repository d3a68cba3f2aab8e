-- How a batch keeps its records: a slot for each, and the bytes of all one after another.
use Rattle.std.specs.Prelude.{◌≡◌, ℕ, ◌+◌, ◌≤◌, List, length, take, drop, map, All}
use Rattle.am_meter.specs.declared.batch.Slot.{Slot}
use Rattle.am_meter.specs.declared.batch.Lent.{Lent}
use Rattle.am_meter.specs.declared.batch.TheConstants.{MAX_RECORDS, MAX_BYTES}
use Rattle.am_meter.specs.Batches.{BatchRecord, batch_record, bytes_in}

-- the record of a slot, whose bytes are among these
abbrev pub slot_record : List ℕ → Slot → BatchRecord
slot_record bytes s = batch_record s.link s.number s.reading s.whole (take s.length (drop s.from bytes))

-- the slot's bytes are among so many
abbrev pub IsSlotWithin : ℕ → Slot → Type 0
IsSlotWithin end s = s.from + s.length ≤ end

-- slots and bytes are those of a batch: each slot's bytes are there, and together they are all
pub record IsKept (slots : List Slot) (bytes : List ℕ) : Type 0 where
  pub within : All (IsSlotWithin (length bytes)) slots
  pub whole : bytes_in (map (slot_record bytes) slots) ≡ length bytes
  pub few : length slots ≤ MAX_RECORDS
  pub short : length bytes ≤ MAX_BYTES

-- what a lent record shows
abbrev pub lent_shown : Lent → BatchRecord
lent_shown r = batch_record r.link r.number r.reading r.whole r.bytes.now
