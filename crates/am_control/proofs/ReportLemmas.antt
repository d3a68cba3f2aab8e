-- The cells of a node's report, and what was measured where there is one of each node.
use Rattle.std.proofs.Common.{◌≡◌, ◌∙◌, ℕ, zero, suc, ◌<◌, ◌≤◌, false, List, [], ◌∷◌, length, get_or, take, map, replicate, Option, Some, None, refl, sym, ap, arith, zero-add}
use Rattle.std.specs.Prelude.{IsSome, is_some, unwrap_or}
use Rattle.std.proofs.Math.ListN.{get_or-map}
use Rattle.std.proofs.lemmas.List.{get_or_default, take_all, length-replicate}
use Rattle.am_cells.specs.declared.cell.Cell.{Cell}
use Rattle.am_cells.specs.Counts.{no_packets, together}
use Rattle.am_cells.specs.CellTables.{CellTable, HasCell, cell_at}
use Rattle.am_domain.specs.Domains.{DomainValue, IsLawful}
use Rattle.am_control.specs.declared.row.Scope.{Scope}
use Rattle.am_control.specs.Plans.{LossPlan, IsPlanOf, entering, leaving}
use Rattle.am_control.specs.Rows.{Measured, no_table, node_cell, sum_over, side_cell, row_between, loss_row}
use Rattle.am_control.specs.Controls.{ControlValue, HasPlanShape, HasRow, IsControl, IsComplete, IsMeasuredBy, measured_of, report_at}
use Rattle.am_control.proofs.SideLemmas.{plan-sides}

-- the report that was read at a place is the one there
pub report-there : (reports : List (Option CellTable)) (node : ℕ) (r : Option CellTable) (t : CellTable) → node < length reports
    → r ≡ get_or reports node r → r ≡ Some t → get_or reports node None ≡ Some t
report-there reports node r t below here is = sym (get_or_default reports node r None below) ∙ sym here ∙ is

-- and where none was read there is none
none-from : (r : Option CellTable) → is_some r ≡ false → r ≡ None
none-from None h = refl
none-from (Some t) h = cc h

pub none-there : (reports : List (Option CellTable)) (node : ℕ) (r d : Option CellTable) → node < length reports
    → r ≡ get_or reports node r → is_some r ≡ false → get_or reports node d ≡ None
none-there reports node r d below here none = sym (get_or_default reports node r d below) ∙ sym here ∙ none-from r none

-- and what was measured has its cells
pub measured-there : (c : ControlValue) (node : ℕ) (t : CellTable) (flow block : ℕ) → report_at c node ≡ Some t
    → cell_at t flow block ≡ node_cell (measured_of c).cells flow block node
measured-there c node t flow block is =
    let table : get_or (map (λ r. unwrap_or r no_table) c.reports) node no_table ≡ t
    = get_or-map (λ r. unwrap_or r no_table) c.reports node None ∙ ap (λ r. unwrap_or r no_table) is in
    ap (λ s. cell_at s flow block) (sym table)

-- cells of a plan's shape have each cell of the plan
pub has-cell : (p : LossPlan) (t : CellTable) (flow block : ℕ) → HasPlanShape p t → HasRow p flow block → HasCell t flow block
has-cell p t flow block shape there = record {
  flow_there = omega (arith, there.flow_there, shape.flows_are);
  from = omega (arith, there.from, shape.first_is);
  until = omega (arith, there.until, shape.end_is);
}

-- where there is a report of each node, the reports are those that were measured
all-measured : (reports : List (Option CellTable)) → ((k : ℕ) (d : Option CellTable) → k < length reports → IsSome (get_or reports k d))
    → reports ≡ map (λ t. Some t) (map (λ r. unwrap_or r no_table) reports)
all-measured [] each = refl
all-measured (None ∷ rest) each = absurd (cc (each 0 None (omega arith)))
all-measured (Some t ∷ rest) each =
    ap (λ more. Some t ∷ more) (all-measured rest (λ k d below. each (suc k) d (omega arith)))

pub complete-measured : (c : ControlValue) → IsComplete c → IsMeasuredBy c (measured_of c)
complete-measured c all = record { plan = refl; reports = all-measured c.reports all }

-- cells with equal numbers are equal
same-numbers : (a b c d a' b' c' d' : ℕ) → a ≡ a' → b ≡ b' → c ≡ c' → d ≡ d'
    → (let x : Cell = record { count = a; dcount = b; sum = c; dsum = d } in x) ≡ record { count = a'; dcount = b'; sum = c'; dsum = d' }
same-numbers a b c d a' b' c' d' p q r s = cc

pub same-cell : (x y : Cell) → x.count ≡ y.count → x.dcount ≡ y.dcount → x.sum ≡ y.sum → x.dsum ≡ y.dsum → x ≡ y
same-cell x y p q r s = same-numbers x.count x.dcount x.sum x.dsum y.count y.dcount y.sum y.dsum p q r s

-- nothing, and a cell, are the cell
pub together-none : (x : Cell) → together no_packets x ≡ x
together-none x =
    same-cell (together no_packets x) x (zero-add x.count) (zero-add x.dcount) (zero-add x.sum) (zero-add x.dsum)

-- the sums over the nodes so far, once these are all
pub passed-all : (cells : List CellTable) (flow block : ℕ) (side : List ℕ) (i : ℕ) (all : Cell) → length side ≤ i
    → all.count ≡ sum_over (λ c. c.count) cells flow block (take i side)
    → all.dcount ≡ sum_over (λ c. c.dcount) cells flow block (take i side)
    → all.sum ≡ sum_over (λ c. c.sum) cells flow block (take i side)
    → all.dsum ≡ sum_over (λ c. c.dsum) cells flow block (take i side)
    → all ≡ side_cell cells flow block side
unfolding side_cell
passed-all cells flow block side i all whole p q r s =
    let e : take i side ≡ side = take_all i side whole in
    same-cell all (side_cell cells flow block side)
    (p ∙ ap (λ t. sum_over (λ c. c.count) cells flow block t) e)
    (q ∙ ap (λ t. sum_over (λ c. c.dcount) cells flow block t) e)
    (r ∙ ap (λ t. sum_over (λ c. c.sum) cells flow block t) e)
    (s ∙ ap (λ t. sum_over (λ c. c.dsum) cells flow block t) e)

-- the row of what passed both sides of a scope
pub row-made : (m : Measured) (scope : Scope) (flow block : ℕ) (came went : Cell)
    → came ≡ side_cell m.cells flow block (entering m.plan scope) → went ≡ side_cell m.cells flow block (leaving m.plan scope)
    → row_between scope flow block came went ≡ loss_row m scope flow block
unfolding loss_row
row-made m scope flow block came went p q =
    ap (λ x. row_between scope flow block x went) p
    ∙ ap (λ x. row_between scope flow block (side_cell m.cells flow block (entering m.plan scope)) x) q

-- a new controller has no report
no-report : (n node : ℕ) (t : CellTable) → get_or (replicate n None) node None ≡ Some t → ⊥
no-report zero node t e = cc e
no-report (suc n) zero t e = cc e
no-report (suc n) (suc node) t e = no-report n node t e

pub new-control : (d : DomainValue) (p : LossPlan) (reports : List (Option CellTable)) → IsLawful d → IsPlanOf d p
    → reports ≡ replicate (length d.nodes) None → IsControl (record { plan = p; reports = reports })
new-control d p reports lawful of none =
    let long : length reports ≡ length d.nodes = ap length none ∙ length-replicate (length d.nodes) None in
    record {
      few_nodes = omega (arith, long, lawful.few_nodes);
      sides = rw long (plan-sides d p lawful of);
      some_flow = omega (arith, of.flows, lawful.some_flow);
      some_block = omega (arith, of.first, of.end, lawful.some_block);
      few_cells = rw (of.flows, of.first, of.end) lawful.few_cells;
      shaped = λ node t e. absurd (no-report (length d.nodes) node t (rw none at e));
    }
