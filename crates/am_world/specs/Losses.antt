-- When a loss table tells the loss that the network had: the captures record a valid and timed world.
use Rattle.std.specs.Prelude.{◌≡◌, ℕ, ◌<◌, List, length, slice_index_or, pos}
use Rattle.am_domain.specs.Domains.{DomainValue}
use Rattle.am_graph.specs.Clusters.{count_of}
use Rattle.am_meter.specs.declared.stream.Marked.{Marked}
use Rattle.am_meter.specs.Metering.{AreMetered}
use Rattle.am_control.specs.declared.row.Scope.TheVariants.{Cluster, Network}
use Rattle.am_control.specs.Rows.{Measured, no_table, lost_in}
use Rattle.am_world.specs.declared.event.Event.{Event}
use Rattle.am_world.specs.Worlds.{IsValid, IsTimed}
use Rattle.am_world.specs.Passes.{sends, Records}
use Rattle.am_world.specs.Drops.{dropped_in, dropped_in_all}

-- the captures of the domain's nodes, by their marked records, record a valid world whose clocks and delays are within
-- the bounds of the domain
pub record AreRecorded (d : DomainValue) (events : List Event) (captures : ℕ → List Marked) : Type 0 where
  pub valid : IsValid d events
  pub timed : IsTimed d.times events
  pub each : (node : ℕ) → node < length d.nodes → Records d events node (captures node)

-- what the loss table is made of are the cells of the captures
abbrev pub IsCountedFrom : DomainValue → (ℕ → List Marked) → Measured → Type 0
IsCountedFrom d captures m =
    (node : ℕ) → node < length d.nodes → AreMetered d node (captures node) (slice_index_or m.cells node no_table)

-- of this flow and this block, the loss of each cluster is the number of packets dropped in it, and that of the network
-- the number dropped in all clusters
pub record TellsDrops (d : DomainValue) (m : Measured) (events : List Event) (flow block : ℕ) : Type 0 where
  pub clusters : (k : ℕ) → k < count_of m.plan.clusters
      → lost_in m (Cluster k) flow block
      ≡ pos (dropped_in d.links m.plan.clusters k (sends d.times flow block) events)
  pub network : lost_in m Network flow block
      ≡ pos (dropped_in_all d.links m.plan.clusters (sends d.times flow block) events)
