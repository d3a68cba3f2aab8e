-- The losses of a world in a cluster, flow by flow and block by block.
use Rattle.std.specs.Prelude.{◌≡◌, ℕ, ◌+◌, ◌-◌, ◌*◌, ◌<◌, ◌≤◌, Bool, false, ◌&&◌, ◌==◌, if◌then◌else◌, List, length, slice_index, Option, Some, None}
use Rattle.am_clock.specs.Times.{Times}
use Rattle.am_domain.specs.Domains.{DomainValue, Reports}
use Rattle.am_graph.specs.Clusters.{ClustersValue}
use Rattle.am_world.specs.declared.event.Event.{Event}
use Rattle.am_world.specs.declared.event.Event.TheVariants.{Send, Hop, Lost}
use Rattle.am_world.specs.Passes.{block_at, sends}
use Rattle.am_world.specs.Drops.{is_at, dropped_in}
use Rattle.am_world.specs.Trips.{Trips, trip_at}

-- how many losses stand before that of this flow and this block: flows ascend, and in each its reported blocks
abbrev pub loss_number : DomainValue → ℕ → ℕ → ℕ
loss_number d flow block = flow * (d.end - d.first) + (block - d.first)

-- there is a loss for each flow and each reported block
abbrev pub HasEach : DomainValue → List ℕ → Type 0
HasEach d losses = length losses ≡ length d.flows * (d.end - d.first)

-- and it is the number of packets dropped in the cluster
pub record AreLosses (d : DomainValue) (c : ClustersValue) (cluster : ℕ) (events : List Event) (losses : List ℕ)
    : Type 0 where
  pub each : HasEach d losses
  pub dropped : (flow block : ℕ) → flow < length d.flows → Reports d block
      → slice_index losses (loss_number d flow block)
      ≡ dropped_in d.links c cluster (sends d.times flow block) events

-- the flow and the block of the packet that is sent here, where it is lost and its last node is one of these
abbrev pub drop_by : Times → Trips → (ℕ → Bool) → Event → Option (ℕ × ℕ)
drop_by t trips here (Send packet flow node time reading delay) =
    if (trip_at trips packet).lost && is_at here (trip_at trips packet).node
    then Some (flow, block_at t reading) else None
drop_by t trips here (Hop packet link time reading) = None
drop_by t trips here (Lost packet) = None

-- it is this flow and this block
abbrev pub is_drop_of : ℕ → ℕ → Option (ℕ × ℕ) → Bool
is_drop_of flow block None = false
is_drop_of flow block (Some of) = of.0 == flow && of.1 == block

-- the loss of the flow and the block rose by one, and no other changed
pub record CountsDrop (d : DomainValue) (drop : Option (ℕ × ℕ)) (old new : List ℕ) : Type 0 where
  pub each : (flow block : ℕ) → flow < length d.flows → Reports d block
      → slice_index new (loss_number d flow block)
      ≡ slice_index old (loss_number d flow block) + (if is_drop_of flow block drop then 1 else 0)
  pub few : (k : ℕ) → slice_index new k ≤ slice_index old k + 1
