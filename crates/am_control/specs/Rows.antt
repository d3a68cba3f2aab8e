-- The rows of a loss table (RFC 9341, sections 3.1 and 3.2; RFC 9342, sections 4 and 5).
use Rattle.std.specs.Prelude.{ℕ, ◌-◌, ◌==◌, if◌then◌else◌, List, [], ◌∷◌, ◌++◌, map, flat_map, sum_by, slice_index_or, Option, Some, None, ℤ, pos, ◌-ℤ◌, ◌+ℤ◌, fold, ◌<◌, ◌^◌}
use Rattle.std.specs.List.{range_with_len}
use Rattle.am_cells.specs.declared.cell.Cell.{Cell}
use Rattle.am_cells.specs.CellTables.{CellTable, cell_at}
use Rattle.am_graph.specs.Clusters.{count_of}
use Rattle.am_control.specs.declared.row.Scope.{Scope}
use Rattle.am_control.specs.declared.row.Scope.TheVariants.{Cluster, Network}
use Rattle.am_control.specs.declared.row.LossRow.{LossRow}
use Rattle.am_control.specs.Plans.{LossPlan, entering, leaving}

-- what a loss table is made of: its plan, and the cells of each node
pub record Measured : Type 0 where
  pub plan : LossPlan
  pub cells : List CellTable

-- this stands for the cells of a node that there isn't
abbrev pub no_table : CellTable
no_table = record { flows = 0; first = 0; end = 0; cells = [] }

-- the cell of a flow and a block at a node
abbrev pub node_cell : List CellTable → ℕ → ℕ → ℕ → Cell
node_cell cells flow block node = cell_at (slice_index_or cells node no_table) flow block

-- the sum of one number of their cells over the nodes of a side
abbrev pub sum_over : (Cell → ℕ) → List CellTable → ℕ → ℕ → List ℕ → ℕ
sum_over number cells flow block side = sum_by (λ node. number (node_cell cells flow block node)) side

-- what passed the nodes of a side: the sum of each number of their cells
unfoldable pub side_cell : List CellTable → ℕ → ℕ → List ℕ → Cell
side_cell cells flow block side = record {
  count = sum_over (λ c. c.count) cells flow block side;
  dcount = sum_over (λ c. c.dcount) cells flow block side;
  sum = sum_over (λ c. c.sum) cells flow block side;
  dsum = sum_over (λ c. c.dsum) cells flow block side;
}

-- the delay of all packets together, where as many left as entered: the sum of the offsets of those that left, less
-- that of those that entered (RFC 9341, section 3.2)
abbrev pub delay_between : ℕ → ℕ → ℕ → ℕ → Option ℤ
delay_between entered left in_sum out_sum = if entered == left then Some (pos out_sum -ℤ pos in_sum) else None

-- the row of a scope, a flow and a block, of which this entered and this left: what entered less what left is lost
abbrev pub row_between : Scope → ℕ → ℕ → Cell → Cell → LossRow
row_between scope flow block came went = record {
  scope = scope;
  flow = flow;
  block = block;
  entered = came.count;
  left = went.count;
  lost = pos came.count -ℤ pos went.count;
  delay = delay_between came.count went.count came.sum went.sum;
  d_entered = came.dcount;
  d_left = went.dcount;
  d_delay = delay_between came.dcount went.dcount came.dsum went.dsum;
}

-- the row of a scope, a flow and a block
unfoldable pub loss_row : Measured → Scope → ℕ → ℕ → LossRow
loss_row m scope flow block =
    row_between scope flow block (side_cell m.cells flow block (entering m.plan scope))
    (side_cell m.cells flow block (leaving m.plan scope))

-- the scopes of a table: the clusters, then the network
abbrev pub scopes : ℕ → List Scope
scopes count = map (λ k. Cluster k) (range_with_len 0 count) ++ Network ∷ []

-- the rows of a flow in a scope: of each reported block, ascending
abbrev pub flow_rows : Measured → Scope → ℕ → List LossRow
flow_rows m scope flow = map (loss_row m scope flow) (range_with_len m.plan.first (m.plan.end - m.plan.first))

-- the rows of a scope: of each flow those of its blocks
abbrev pub scope_rows : Measured → Scope → List LossRow
scope_rows m scope = flat_map (flow_rows m scope) (range_with_len 0 m.plan.flows)

-- the rows of a table: of each scope those of its flows
unfoldable pub loss_rows : Measured → List LossRow
loss_rows m = flat_map (scope_rows m) (scopes (count_of m.plan.clusters))

-- what was lost of a flow's packets of a block in a scope
abbrev pub lost_in : Measured → Scope → ℕ → ℕ → ℤ
lost_in m scope flow block = (loss_row m scope flow block).lost

-- what was lost in all clusters
abbrev pub lost_in_clusters : Measured → ℕ → ℕ → ℤ
lost_in_clusters m flow block =
    fold ◌+ℤ◌ (pos 0) (map (λ k. lost_in m (Cluster k) flow block) (range_with_len 0 (count_of m.plan.clusters)))

-- the numbers of a row's cell are no greater than signed ones may be
pub record FitsRow (c : Cell) : Type 0 where
  pub count : c.count < 2 ^ 63
  pub sum : c.sum < 2 ^ 127
  pub dsum : c.dsum < 2 ^ 127
