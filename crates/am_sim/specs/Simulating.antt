-- What a simulated network shows: what a made world drops, and what is reported of it from the captures of its nodes
-- (RFC 9341, section 3.1; RFC 9342, section 5).
use Rattle.std.specs.Prelude.{◌≡◌, ℕ, ◌<◌, ◌==◌, Bool, false, List, [], map, length, sum_by, count_by, slice_index_or, ℤ, pos, negsuc, Ok}
use Rattle.am_cells.specs.CellTables.{CellTable}
use Rattle.am_control.specs.declared.row.Scope.{Scope}
use Rattle.am_control.specs.declared.row.Scope.TheVariants.{Cluster, Network}
use Rattle.am_control.specs.declared.row.LossRow.{LossRow}
use Rattle.am_control.specs.Plans.{IsPlanOf}
use Rattle.am_control.specs.Rows.{Measured, no_table, scopes, scope_rows}
use Rattle.am_domain.specs.Domains.{DomainValue}
use Rattle.am_graph.specs.Clusters.{ClustersValue, count_of}
use Rattle.am_meter.specs.Marks.{JudgesMarks}
use Rattle.am_meter.specs.Metering.{AreMetered}
use Rattle.am_meter.specs.declared.stream.Marked.{Marked}
use Rattle.am_world.specs.declared.event.Event.{Event}
use Rattle.am_world.specs.Captures.{node_capture}
use Rattle.am_world.specs.Delays.{signed_sum}
use Rattle.am_world.specs.Drops.{dropped_in, dropped_in_all}
use Rattle.am_world.specs.Generating.{IsMade}
use Rattle.am_world.specs.Passes.{sends, Records}
use Rattle.am_sim.specs.declared.row.SimRow.{SimRow}

-- these are the marked records of the capture that the node takes of the world, and they record it; and these are the
-- cells over them
pub record AreSimulatedCells (d : DomainValue) (events : List Event) (node : ℕ) (ms : List Marked) (t : CellTable) : Type 0 where
  pub judged : JudgesMarks d.kind (node_capture d events node) (Ok ms)
  pub records : Records d events node ms
  pub metered : AreMetered d node ms t

-- this is what is measured of the world: each node has the cells of its capture
pub record IsMeasuredOf (d : DomainValue) (events : List Event) (m : Measured) : Type 0 where
  pub plan : IsPlanOf d m.plan
  pub each : length m.cells ≡ length d.nodes
  pub taken : List (List Marked)
  pub counted : (node : ℕ) → node < length d.nodes
      → AreSimulatedCells d events node (slice_index_or taken node []) (slice_index_or m.cells node no_table)

-- how many packets of the flow and the block are dropped in the scope: in a cluster, or in all of them
abbrev pub dropped_of : DomainValue → ClustersValue → List Event → Scope → ℕ → ℕ → ℕ
dropped_of d c events (Cluster k) flow block = dropped_in d.links c k (sends d.times flow block) events
dropped_of d c events Network flow block = dropped_in_all d.links c (sends d.times flow block) events

-- the loss that is reported is this number
abbrev pub agree : ℤ → ℕ → Bool
agree (pos lost) dropped = lost == dropped
agree (negsuc lost) dropped = false

-- a row over some rows of the loss table, where so many packets were dropped of each
abbrev pub row_of : Scope → (LossRow → ℕ) → List LossRow → SimRow
row_of scope dropped rows = record {
  scope = scope;
  dropped = sum_by dropped rows;
  lost = signed_sum (λ r. r.lost) rows;
  cells = length rows;
  equal = count_by (λ r. agree r.lost (dropped r)) rows;
}

-- the row of a scope: over its rows in the loss table, of each flow and reported block
abbrev pub sim_row : DomainValue → Measured → List Event → Scope → SimRow
sim_row d m events scope =
    row_of scope (λ r. dropped_of d m.plan.clusters events scope r.flow r.block) (scope_rows m scope)

-- the rows of all clusters, and then that of the network
abbrev pub sim_rows : DomainValue → Measured → List Event → List SimRow
sim_rows d m events = map (sim_row d m events) (scopes (count_of m.plan.clusters))

-- these are the rows of the world that the number makes of so many packets, and of what is measured of it
pub record IsSimulated (d : DomainValue) (number packets : ℕ) (rows : List SimRow) : Type 0 where
  pub events : List Event
  pub made : IsMade d number packets events
  pub measured : Measured
  pub of_world : IsMeasuredOf d events measured
  pub rows_are : rows ≡ sim_rows d measured events

-- as much is reported as is dropped, and so it is of each flow and reported block
pub record IsRight (r : SimRow) : Type 0 where
  pub sums : r.lost ≡ pos r.dropped
  pub each : r.equal ≡ r.cells
