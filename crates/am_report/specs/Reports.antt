-- What a text says as a report, or how it is refused.
use Rattle.std.specs.Prelude.{◌≡◌, ◌≢◌, ◌⊎◌, ℕ, ◌+◌, ◌-◌, ◌*◌, ◌<◌, ◌≤◌, List, [], ◌∷◌, ◌++◌, All, map, length, sum_by, Result, Err}
use Rattle.csv.specs.Reading.{AreRecords, Reached, default_config, strip_bom}
use Rattle.csv.specs.declared.parser.State.{State}
use Rattle.csv.specs.declared.parser.State.TheVariants as state
use Rattle.am_cells.specs.declared.cell.TheConstants.{MAX_COUNT}
use Rattle.am_domain.specs.Domains.{DomainValue}
use Rattle.am_domain.specs.Network.{IsNode, IsNoNode, IsNumberOf}
use Rattle.am_report.specs.Rows.{RowValue, SpellsRow, column_names, flow_name}
use Rattle.am_report.specs.declared.error.ReportError.{ReportError}
use Rattle.am_report.specs.declared.error.ReportError.TheVariants.{BadHeader, BadRow, UnknownNode, OtherNode, UnknownFlow, NotInOrder, Short, Memory}
use Rattle.am_report.specs.declared.read.Report.{Report}

-- these are all rows of a text, as it reads as CSV (RFC 4180, section 2): a row of no bytes is none
abbrev pub AreRows : List ℕ → List (List (List ℕ)) → Type 0
AreRows bytes rows = AreRecords default_config state.StartRecord (strip_bom bytes) rows

-- a text begins with these rows
abbrev pub BeginsWithRows : List ℕ → List (List (List ℕ)) → Type 0
BeginsWithRows bytes rows =
    (after : State) × (left : List ℕ) × Reached default_config state.StartRecord (strip_bom bytes) rows after left

-- how many packets the rows count
abbrev pub packets_of : List RowValue → ℕ
packets_of rows = sum_by (λ r. r.cell.count) rows

-- the fields after these rows are those of this row, and the rows with it count no more packets than may be counted
pub record IsRow (before : List RowValue) (fields : List (List ℕ)) (r : RowValue) : Type 0 where
  pub spells : SpellsRow fields r
  pub counted : packets_of before + r.cell.count ≤ MAX_COUNT

-- the row's node is that of the first row
abbrev pub IsOfFirstNode : List RowValue → RowValue → Type 0
IsOfFirstNode [] r = Unit {0}
IsOfFirstNode (first ∷ others) r = r.node ≡ first.node

-- this is the number of the flow of this name
pub record IsFlowNumber (d : DomainValue) (name : List ℕ) (number : ℕ) : Type 0 where
  pub within : number < length d.flows
  pub named : flow_name d number ≡ name

-- no flow has this name
abbrev pub IsNoFlow : DomainValue → List ℕ → Type 0
IsNoFlow d name = (number : ℕ) → IsFlowNumber d name number → ⊥

-- after so many rows the row of this flow and block is wanted: blocks ascend, and in each the flows
pub record IsWanted (d : DomainValue) (rows flow block : ℕ) : Type 0 where
  pub flow_there : flow < length d.flows
  pub from : d.first ≤ block
  pub until : block < d.end
  pub next : rows ≡ (block - d.first) * length d.flows + flow

-- the fields after these rows are taken as this row
pub record IsTaken (d : DomainValue) (before : List RowValue) (fields : List (List ℕ)) (r : RowValue) : Type 0 where
  pub row : IsRow before fields r
  pub node : IsNode d.nodes r.node
  pub of_first : IsOfFirstNode before r
  pub flow : ℕ
  pub flow_is : IsFlowNumber d r.flow flow
  pub wanted : IsWanted d (length before) flow r.block

-- the fields after these rows are a row, of a node of the domain
pub record KnowsNode (d : DomainValue) (before : List RowValue) (fields : List (List ℕ)) (r : RowValue) : Type 0 where
  pub row : IsRow before fields r
  pub node : IsNode d.nodes r.node

-- why the fields after these rows are not taken; the first row is that of the columns' names
abbrev pub RefusesRow : DomainValue → List RowValue → List (List ℕ) → ReportError → Type 0
RefusesRow d before fields (BadRow row) =
    (row ≡ length before + 2) × ((r : RowValue) → IsRow before fields r → ⊥)
RefusesRow d before fields (UnknownNode row) =
    (row ≡ length before + 2) × (r : RowValue) × IsRow before fields r × IsNoNode d.nodes r.node
RefusesRow d before fields (OtherNode row) =
    (row ≡ length before + 2) × (r : RowValue) × KnowsNode d before fields r × (IsOfFirstNode before r → ⊥)
RefusesRow d before fields (UnknownFlow row) =
    (row ≡ length before + 2) × (r : RowValue) × KnowsNode d before fields r × IsOfFirstNode before r
    × IsNoFlow d r.flow
RefusesRow d before fields (NotInOrder row) =
    (row ≡ length before + 2) × (r : RowValue) × KnowsNode d before fields r × IsOfFirstNode before r
    × (flow : ℕ) × IsFlowNumber d r.flow flow × (IsWanted d (length before) flow r.block → ⊥)
RefusesRow d before fields BadHeader = ⊥
RefusesRow d before fields (Short flow block) = ⊥
RefusesRow d before fields Memory = ⊥

-- after these rows, the fields of more are taken one by one, and these are all rows then
abbrev pub TakesRows : DomainValue → List RowValue → List (List (List ℕ)) → List RowValue → Type 0
TakesRows d before [] after = after ≡ before
TakesRows d before (fields ∷ more) after =
    (r : RowValue) × IsTaken d before fields r × TakesRows d (before ++ r ∷ []) more after

-- the rows of a text after that of the columns' names are all taken, as these
pub record AreAllTaken (d : DomainValue) (bytes : List ℕ) (taken : List RowValue) : Type 0 where
  pub fields : List (List (List ℕ))
  pub rows : AreRows bytes (column_names ∷ fields)
  pub takes : TakesRows d [] fields taken

-- the text says this report: all of its rows are taken, no further one is wanted, and they are of its node and have its
-- cells
pub record IsReportOf (d : DomainValue) (bytes : List ℕ) (report : Report) : Type 0 where
  pub taken : List RowValue
  pub all : AreAllTaken d bytes taken
  pub whole : length taken ≡ length d.flows * (d.end - d.first)
  pub node : All (λ r. IsNumberOf d.nodes r.node report.node) taken
  pub cells : report.cells
      ≡ record { flows = length d.flows; first = d.first; end = d.end; cells = map (λ r. r.cell) taken }

-- this is said of the text's first refused row, after rows that are taken
pub record IsRowRefusal (d : DomainValue) (bytes : List ℕ) (e : ReportError) : Type 0 where
  pub before : List (List (List ℕ))
  pub taken : List RowValue
  pub fields : List (List ℕ)
  pub rows : BeginsWithRows bytes (column_names ∷ (before ++ fields ∷ []))
  pub takes : TakesRows d [] before taken
  pub refused : RefusesRow d taken fields e

-- the text's rows end where the row of this flow and block is wanted
pub record IsShortReport (d : DomainValue) (bytes : List ℕ) (flow block : ℕ) : Type 0 where
  pub taken : List RowValue
  pub all : AreAllTaken d bytes taken
  pub wanted : IsWanted d (length taken) flow block

-- the text has no row, or its first one isn't that of the columns' names
abbrev pub LacksHeader : List ℕ → Type 0
LacksHeader bytes =
    AreRows bytes [] ⊎ ((fields : List (List ℕ)) × BeginsWithRows bytes (fields ∷ []) × (fields ≢ column_names))

-- the text is refused so. Want of memory refuses no text
abbrev pub IsReportRefusal : DomainValue → List ℕ → ReportError → Type 0
IsReportRefusal d bytes BadHeader = LacksHeader bytes
IsReportRefusal d bytes (Short flow block) = IsShortReport d bytes flow block
IsReportRefusal d bytes Memory = ⊥
IsReportRefusal d bytes e = IsRowRefusal d bytes e

-- what is answered where no report is read: how the text is refused, or want of memory, which says nothing of it
abbrev pub TellsReportRefusal : DomainValue → List ℕ → ReportError → Type 0
TellsReportRefusal d bytes Memory = Unit {0}
TellsReportRefusal d bytes e = IsReportRefusal d bytes e

-- the answer is this one, or want of memory
abbrev pub IsReportAnswer : Result Report ReportError → Result Report ReportError → Type 0
IsReportAnswer result wanted = (result ≡ Err Memory) ⊎ (result ≡ wanted)
