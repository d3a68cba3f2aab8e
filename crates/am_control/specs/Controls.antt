-- A controller: of which nodes there is a report, and what follows where there is one of each.
use Rattle.std.specs.Prelude.{◌≡◌, ℕ, ◌*◌, ◌-◌, ◌<◌, ◌≤◌, List, All, map, length, slice_index_or, slice_set, Option, Some, None, IsSome, unwrap_or}
use Rattle.am_cells.specs.CellTables.{CellTable, HasShape}
use Rattle.am_cells.specs.declared.cells.TheConstants.{MAX_CELLS}
use Rattle.am_graph.specs.Lists.{list_at}
use Rattle.am_graph.specs.Clusters.{count_of}
use Rattle.am_domain.specs.Lists.{IsFirstPlace}
use Rattle.am_control.specs.declared.row.Scope.{Scope}
use Rattle.am_control.specs.declared.row.Scope.TheVariants.{Cluster, Network}
use Rattle.am_control.specs.declared.error.ControlError.{ControlError}
use Rattle.am_control.specs.declared.error.ControlError.TheVariants.{ReportTwice, MissingReport, Memory}
use Rattle.am_domain.specs.Domains.{DomainValue}
use Rattle.am_control.specs.Plans.{LossPlan, IsPlanOf}
use Rattle.am_control.specs.Rows.{Measured, no_table}

-- a controller: its plan, and of each node the cells of its report, where there is one
pub record ControlValue : Type 0 where
  pub plan : LossPlan
  pub reports : List (Option CellTable)

-- the cells of the node's report, where there is one
abbrev pub report_at : ControlValue → ℕ → Option CellTable
report_at c node = slice_index_or c.reports node None

-- the cells have a cell for each flow and each reported block of the plan
abbrev pub HasPlanShape : LossPlan → CellTable → Type 0
HasPlanShape p t = HasShape t p.flows p.first p.end

-- there was no report of the node; now there is one with these cells, and nothing else changed
pub record Accepts (old new : ControlValue) (node : ℕ) (cells : CellTable) : Type 0 where
  pub before : report_at old node ≡ None
  pub after : new ≡ record { plan = old.plan; reports = slice_set old.reports node (Some cells) }

-- why no report of the node was accepted: there is one already. Want of memory comes only where there is none
abbrev pub RefusesReport : ControlValue → ℕ → ControlError → Type 0
RefusesReport c node (ReportTwice twice) = (twice ≡ node) × IsSome (report_at c node)
RefusesReport c node (MissingReport missing) = ⊥
RefusesReport c node Memory = report_at c node ≡ None

-- there is a report of each node, and what is measured has their cells
pub record IsMeasuredBy (c : ControlValue) (m : Measured) : Type 0 where
  pub plan : m.plan ≡ c.plan
  pub reports : c.reports ≡ map (λ t. Some t) m.cells

-- this is the first node of which there is no report
abbrev pub TellsMissing : ControlValue → ControlError → Type 0
TellsMissing c (MissingReport node) = IsFirstPlace IsSome (λ r. r ≡ None) c.reports node
TellsMissing c _ = ⊥

-- there is a report of each node
abbrev pub IsComplete : ControlValue → Type 0
IsComplete c = All IsSome c.reports

-- what the reports of all nodes measured
abbrev pub measured_of : ControlValue → Measured
measured_of c = record { plan = c.plan; cells = map (λ r. unwrap_or r no_table) c.reports }

-- the plan has this scope
abbrev pub IsScope : LossPlan → Scope → Type 0
IsScope p (Cluster k) = k < count_of p.clusters
IsScope p Network = Unit {0}

-- the plan has this flow, and reports this block
pub record HasRow (p : LossPlan) (flow block : ℕ) : Type 0 where
  pub flow_there : flow < p.flows
  pub from : p.first ≤ block
  pub until : block < p.end

-- the nodes of a side are among the first so many, and are as many as there may be at most
pub record IsSide (nodes : ℕ) (side : List ℕ) : Type 0 where
  pub within : All (λ node. node < nodes) side
  pub few : length side ≤ 128

-- each side of a plan has nodes of the network
pub record HasSides (nodes : ℕ) (p : LossPlan) : Type 0 where
  pub starts_each : length p.clusters.starts ≡ count_of p.clusters
  pub ends_each : length p.clusters.ends ≡ count_of p.clusters
  pub starts : (k : ℕ) → k < count_of p.clusters → IsSide nodes (list_at p.clusters.starts k)
  pub ends : (k : ℕ) → k < count_of p.clusters → IsSide nodes (list_at p.clusters.ends k)
  pub entries : IsSide nodes p.entries
  pub exits : IsSide nodes p.exits

-- what every controller has: few nodes, sides of nodes, a flow and a block, and reports that have the plan's cells
pub record IsControl (c : ControlValue) : Type 0 where
  pub few_nodes : length c.reports ≤ 128
  pub sides : HasSides (length c.reports) c.plan
  pub some_flow : 1 ≤ c.plan.flows
  pub some_block : c.plan.first < c.plan.end
  pub few_cells : c.plan.flows * (c.plan.end - c.plan.first) ≤ MAX_CELLS
  pub shaped : (node : ℕ) (t : CellTable) → report_at c node ≡ Some t → HasPlanShape c.plan t

-- the controller is for the domain: its plan is that of the domain, and there is a place for a report of each node
pub record IsControlOf (d : DomainValue) (c : ControlValue) : Type 0 where
  pub plan : IsPlanOf d c.plan
  pub nodes : length c.reports ≡ length d.nodes
