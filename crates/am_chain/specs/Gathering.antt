-- The reports of a domain's nodes, gathered in any order: of which nodes there is one, and what a controller has of them.
use Rattle.std.specs.Prelude.{◌≡◌, ℕ, ◌==◌, List, [], ◌∷◌, length, map, Option, Some, None, is_none, if◌then◌else◌}
use Rattle.std.specs.List.{position, range_with_len}
use Rattle.am_cells.specs.CellTables.{CellTable}
use Rattle.am_control.specs.Controls.{ControlValue}
use Rattle.am_control.specs.Plans.{IsPlanOf}
use Rattle.am_domain.specs.Domains.{DomainValue}
use Rattle.am_report.specs.declared.read.Report.{Report}

-- the cells of the node's report, where there is one
abbrev pub cells_of : List Report → ℕ → Option CellTable
cells_of [] node = None
cells_of (r ∷ rs) node = if r.node == node then Some r.cells else cells_of rs node

-- of each node the cells of its report, where there is one
abbrev pub cells_of_each : DomainValue → List Report → List (Option CellTable)
cells_of_each d taken = map (cells_of taken) (range_with_len 0 (length d.nodes))

-- the first node of which there is no report
abbrev pub node_without : DomainValue → List Report → Option ℕ
node_without d taken = position (λ cells. is_none cells) (cells_of_each d taken)

-- a controller of the domain has these reports, and no others
pub record HasReports (d : DomainValue) (control : ControlValue) (taken : List Report) : Type 0 where
  pub plan : IsPlanOf d control.plan
  pub reports : control.reports ≡ cells_of_each d taken
