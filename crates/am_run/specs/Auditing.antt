-- The captures of a domain's nodes, taken one after another; and that the number of workers changes nothing.
use Rattle.std.specs.Prelude.{◌≡◌, ℕ, ◌-◌, ◌≤◌, List, [], ◌++◌, length, drop, map, replicate, Some, None}
use Rattle.am_cells.specs.CellTables.{CellTable}
use Rattle.am_control.specs.Controls.{ControlValue}
use Rattle.am_control.specs.Plans.{LossPlan}
use Rattle.am_domain.specs.Domains.{DomainValue}
use Rattle.am_meter.specs.declared.stream.Marked.{Marked}
use Rattle.am_chain.specs.Answers.{Answer}
use Rattle.am_chain.specs.Chains.{Inputs, Output, Performs}
use Rattle.am_run.specs.commands.Audit.{HaveCells, IsLossTable, audit_from}
use Rattle.am_run.specs.commands.Meter.{IsNodeReport}

-- the captures of all nodes come to this stop, and nothing is printed, however the output stands
abbrev pub StopsAmong : DomainValue → Inputs → Inputs → Answer → Type 0
StopsAmong d before after answer = (o : Output) → Performs before after o o (audit_from d d.nodes []) answer

-- the captures of the first so many nodes were taken: what is performed from here on is what all come to
pub record TakesFirst (d : DomainValue) (count : ℕ) (plan : LossPlan) (before now : Inputs) (control : ControlValue) : Type 0 where
  pub taken : List (List Marked)
  pub cells : List CellTable
  pub few : count ≤ length d.nodes
  pub each : length taken ≡ count
  pub have : HaveCells d count taken cells
  pub plan_is : control.plan ≡ plan
  pub reports : control.reports ≡ map (λ t. Some t) cells ++ replicate (length d.nodes - count) None
  pub goes_on : (after : Inputs) (old new : Output) (answer : Answer)
      → Performs now after old new (audit_from d (drop count d.nodes) taken) answer
      → Performs before after old new (audit_from d d.nodes []) answer

-- a domain with another number of workers
abbrev pub with_workers : DomainValue → ℕ → DomainValue
with_workers d workers = record d { workers = workers }

-- a node's report is the same for every number of workers
abbrev pub ReportsIgnoreWorkers : Type 0
ReportsIgnoreWorkers =
    (d : DomainValue) (workers node : ℕ) (ms : List Marked) (text : List ℕ)
    → IsNodeReport d node ms text → IsNodeReport (with_workers d workers) node ms text

-- and so is the loss table
abbrev pub TablesIgnoreWorkers : Type 0
TablesIgnoreWorkers =
    (d : DomainValue) (workers : ℕ) (taken : List (List Marked)) (text : List ℕ)
    → IsLossTable d taken text → IsLossTable (with_workers d workers) taken text
