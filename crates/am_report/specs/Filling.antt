-- What has been taken of a report so far.
use Rattle.std.specs.Prelude.{◌≡◌, ◌≢◌, ℕ, ◌+◌, ◌-◌, ◌*◌, ◌<◌, ◌≤◌, List, [], All, MatchOption, IfSome, Option, IsSomeAnd, Result, Ok, Err, map, length, slice_index_or}
use Rattle.am_cells.specs.Counts.{no_packets}
use Rattle.am_cells.specs.CellTables.{HasCell, HasShape, cell_number, cell_at, total_of}
use Rattle.am_domain.specs.Domains.{DomainValue}
use Rattle.am_domain.specs.Network.{IsNumberOf, IsNoNode}
use Rattle.am_report.specs.Rows.{RowValue, node_name}
use Rattle.am_report.specs.Reports.{IsFlowNumber, IsNoFlow, IsWanted, packets_of}
use Rattle.am_report.specs.declared.error.ReportError.{ReportError}
use Rattle.am_report.specs.declared.error.ReportError.TheVariants.{BadHeader, BadRow, UnknownNode, OtherNode, UnknownFlow, NotInOrder, Short, Memory}
use Rattle.am_report.specs.declared.filling.Filling.{Filling}
use Rattle.am_report.specs.declared.read.Report.{Report}

-- what is so of every report that is filled: its cells are the domain's, and the next row is one of its rows, or the one
-- after the last
pub record IsFilling (d : DomainValue) (f : Filling) : Type 0 where
  pub shape : HasShape f.cells (length d.flows) d.first d.end
  pub flow_there : f.flow < length d.flows
  pub from : d.first ≤ f.block
  pub until : f.block ≤ d.end
  pub whole : f.block ≡ d.end → f.flow ≡ 0
  pub number : f.row ≡ (f.block - d.first) * length d.flows + f.flow + 2
  pub named : IfSome f.node (λ n. IsNumberOf d.nodes (node_name d n) n)

-- these rows were taken
pub record IsFilled (d : DomainValue) (f : Filling) (taken : List RowValue) : Type 0 where
  pub number : f.row ≡ length taken + 2
  -- their cells are in the table, and all others are still without packets
  pub there : (flow block : ℕ) (r : RowValue) → HasCell f.cells flow block
      → cell_number f.cells flow block < length taken
      → cell_at f.cells flow block ≡ (slice_index_or taken (cell_number f.cells flow block) r).cell
  pub ahead : (flow block : ℕ) → HasCell f.cells flow block
      → length taken ≤ cell_number f.cells flow block → cell_at f.cells flow block ≡ no_packets
  pub counted : total_of f.cells ≡ packets_of taken
  pub node : MatchOption f.node (taken ≡ []) (λ n. (0 < length taken) × All (λ r. IsNumberOf d.nodes r.node n) taken)

-- why the row of this number, which names this node, is not taken
abbrev pub TellsNode : DomainValue → Option ℕ → ℕ → List ℕ → ReportError → Type 0
TellsNode d first row name (UnknownNode number) = (number ≡ row) × IsNoNode d.nodes name
TellsNode d first row name (OtherNode number) =
    (number ≡ row) × (n : ℕ) × IsNumberOf d.nodes name n × IsSomeAnd first (λ f. node_name d f ≢ name)
TellsNode d first row name BadHeader = ⊥
TellsNode d first row name (BadRow number) = ⊥
TellsNode d first row name (UnknownFlow number) = ⊥
TellsNode d first row name (NotInOrder number) = ⊥
TellsNode d first row name (Short flow block) = ⊥
TellsNode d first row name Memory = ⊥

-- why the row of this number, which names this flow, is not taken where another is wanted
abbrev pub TellsPair : DomainValue → ℕ → ℕ → List ℕ → ReportError → Type 0
TellsPair d flow row name (UnknownFlow number) = (number ≡ row) × IsNoFlow d name
TellsPair d flow row name (NotInOrder number) =
    (number ≡ row) × (n : ℕ) × IsFlowNumber d name n × (n ≢ flow)
TellsPair d flow row name BadHeader = ⊥
TellsPair d flow row name (BadRow number) = ⊥
TellsPair d flow row name (UnknownNode number) = ⊥
TellsPair d flow row name (OtherNode number) = ⊥
TellsPair d flow row name (Short flow' block) = ⊥
TellsPair d flow row name Memory = ⊥

-- what a report comes to whose rows are these
abbrev pub Comes : DomainValue → List RowValue → Result Report ReportError → Type 0
Comes d taken (Ok report) =
    (length taken ≡ length d.flows * (d.end - d.first)) × All (λ r. IsNumberOf d.nodes r.node report.node) taken
    × (report.cells ≡ record { flows = length d.flows; first = d.first; end = d.end; cells = map (λ r. r.cell) taken })
Comes d taken (Err (Short flow block)) = IsWanted d (length taken) flow block
Comes d taken (Err e) = ⊥

-- the same, whatever the rows were
abbrev pub IsFinished : DomainValue → Filling → Result Report ReportError → Type 0
IsFinished d f result = (taken : List RowValue) → IsFilled d f taken → Comes d taken result
