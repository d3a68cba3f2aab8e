-- The records of a batch, counted one after another.
use Rattle.std.proofs.Common.{arith, ◌≡◌, ℕ, ◌+◌, ◌<◌, ◌≤◌, true, false, List, ◌++◌, length, take, slice_index_or}
use Rattle.std.proofs.lemmas.List.{length-append}
use Rattle.am_ip6.specs.Marks.{Seen}
use Rattle.am_ip6.specs.Marks.Seen.{Marks, NoMark, CutOff}
use Rattle.am_cells.specs.CellTables.{CellTable}
use Rattle.am_domain.specs.Domains.{DomainValue}
use Rattle.am_meter.specs.declared.stream.Marked.{Marked}
use Rattle.am_meter.specs.Marks.{marked_by}
use Rattle.am_meter.specs.Metering.{CountsMore}
use Rattle.am_meter.specs.Batches.{BatchRecord, HaveMarks, CutsFirst}
use Rattle.am_meter.specs.Counted.{CountsRecord}
use Rattle.am_meter.proofs.Cells.{counts-both}
use Rattle.am_meter.proofs.Batched.{marks-next, cuts-next}

-- a record is one marked record at most
marked-few : (number reading : ℕ) (seen : Seen) → length (marked_by number reading seen) ≤ 1
marked-few number reading (Marks mark at) = omega arith
marked-few number reading NoMark = omega arith
marked-few number reading CutOff = omega arith

-- the first records of a batch were counted
pub record CountsFront (d : DomainValue) (node : ℕ) (rs : List BatchRecord) (at : ℕ) (old now : CellTable) : Type 0 where
  pub marks : List Marked
  pub marked : HaveMarks d.kind (take at rs) marks
  pub few : length marks ≤ at
  pub counted : CountsMore d node old now marks

pub counts-front :
    (d : DomainValue) (node : ℕ) (rs : List BatchRecord) (at : ℕ) (r : BatchRecord) (old mid new : CellTable)
    → at < length rs
    → ((e : BatchRecord) → r ≡ slice_index_or rs at e)
    → CountsFront d node rs at old mid
    → CountsRecord d node r mid new true
    → CountsFront d node rs (at + 1) old new
counts-front d node rs at r old mid new there is f (seen, shows, uncut, more) = record {
  marks = f.marks ++ marked_by r.number r.reading seen;
  marked = marks-next d.kind rs at f.marks r seen there is f.marked shows uncut;
  few = omega (arith, f.few, marked-few r.number r.reading seen, length-append f.marks (marked_by r.number r.reading seen));
  counted = counts-both d node old mid new f.marks (marked_by r.number r.reading seen) f.counted more;
}

pub cuts-at :
    (d : DomainValue) (node : ℕ) (rs : List BatchRecord) (at : ℕ) (r : BatchRecord) (old mid new : CellTable)
    → at < length rs
    → ((e : BatchRecord) → r ≡ slice_index_or rs at e)
    → CountsFront d node rs at old mid
    → CountsRecord d node r mid new false
    → (ms : List Marked) × CutsFirst d.kind rs r.number ms
cuts-at d node rs at r old mid new there is f shows = (f.marks, cuts-next d.kind rs at f.marks r there is f.marked shows)
