-- Why the loss that is computed is the one that the network had: attribution, conservation and counting.
use Rattle.std.specs.Prelude.{◌≡◌, ℕ, ⊤, ◌+◌, ◌%◌, Bool, true, ◌==◌, ◌↔◌, IsTrue, List, All}
use Rattle.am_clock.specs.Times.{parity, belongs_to}
use Rattle.am_domain.specs.Domains.{DomainValue}
use Rattle.am_graph.specs.Clusters.{ClustersValue}
use Rattle.am_meter.specs.Metering.{node_shift}
use Rattle.am_world.specs.declared.event.Event.{Event}
use Rattle.am_world.specs.declared.event.Event.TheVariants.{Send}
use Rattle.am_world.specs.Events.{event_packet, event_reading}
use Rattle.am_world.specs.Passes.{passes, passed_at, block_at}
use Rattle.am_world.specs.Drops.{is_start, is_end, dropped_in, waiting_at, hopped_over, is_inside}

-- where the second event is a pass of the packet that is sent at the first: by its reading there, and by the colour of
-- the block in which the packet was sent, it belongs to that block, and to no other (RFC 9341, section 5)
abbrev pub IsAttributed : DomainValue → Event → Event → Type 0
IsAttributed d (Send packet flow entry time sent delay) e =
    packet ≡ event_packet e
    → (node block : ℕ) (colour : Bool)
    → passes d.links (λ n. n == node) e ≡ true → parity colour ≡ block_at d.times sent % 2
    → IsTrue (belongs_to d.times (event_reading e) colour (node_shift d node) block)
    ↔ (block ≡ block_at d.times sent)
IsAttributed d _ e = ⊤

-- each pass of each packet does
abbrev pub AreAttributed : DomainValue → List Event → Type 0
AreAttributed d events = All (λ sent. All (IsAttributed d sent) events) events

-- counted over events that began, packets of the cluster are conserved: those that passed its starts hopped over its
-- links, were dropped at a start or wait there, and those that passed its ends hopped over its links
pub record AreConserved (d : DomainValue) (c : ClustersValue) (cluster : ℕ) (so : Event → Bool) (events : List Event)
    : Type 0 where
  pub starts : passed_at d.links (is_start c cluster) so events
      ≡ hopped_over (is_inside c cluster) so events
      + (dropped_in d.links c cluster so events + waiting_at d.links (is_start c cluster) so events)
  pub ends : passed_at d.links (is_end c cluster) so events ≡ hopped_over (is_inside c cluster) so events
