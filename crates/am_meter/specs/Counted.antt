-- What counting answers: the cells over the marked records of a batch, or why there are none.
use Rattle.std.specs.Prelude.{◌≢◌, ℕ, ⊤, Bool, true, false, List}
use Rattle.am_ip6.specs.Marks.{Seen}
use Rattle.am_ip6.specs.Marks.Seen.{CutOff}
use Rattle.am_cells.specs.CellTables.{CellTable}
use Rattle.am_domain.specs.Domains.{DomainValue}
use Rattle.am_meter.specs.declared.stream.Marked.{Marked}
use Rattle.am_meter.specs.declared.counting.CountError.{CountError}
use Rattle.am_meter.specs.declared.counting.CountError.TheVariants.{HeadersCut, Memory}
use Rattle.am_meter.specs.Marks.{marked_by}
use Rattle.am_meter.specs.Metering.{AreMetered, CountsMore}
use Rattle.am_meter.specs.Batches.{BatchRecord, RecordShows, HaveMarks, CutsFirst}

-- these are the cells of a node over the marked records of a batch, of which none has headers that are cut
pub record CellsOf (d : DomainValue) (node : ℕ) (rs : List BatchRecord) (t : CellTable) : Type 0 where
  pub marks : List Marked
  pub marked : HaveMarks d.kind rs marks
  pub metered : AreMetered d node marks t

-- why the records of a batch have no cells: the headers of one are cut, and this is the number of the first. Want of memory says
-- nothing of them
abbrev pub WhyNotCounted : DomainValue → List BatchRecord → CountError → Type 0
WhyNotCounted d rs (HeadersCut number) = (ms : List Marked) × CutsFirst d.kind rs number ms
WhyNotCounted d rs Memory = ⊤

-- a record was counted by what it shows of a mark; or it was not, and its headers are cut
abbrev pub CountsRecord : DomainValue → ℕ → BatchRecord → CellTable → CellTable → Bool → Type 0
CountsRecord d node r old new true =
    (seen : Seen) × RecordShows d.kind r seen × (seen ≢ CutOff)
    × CountsMore d node old new (marked_by r.number r.reading seen)
CountsRecord d node r old new false = RecordShows d.kind r CutOff
