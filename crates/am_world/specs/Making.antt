-- How a world is made from a number, packet by packet.
use Rattle.std.specs.Prelude.{◌≡◌, ◌≢◌, ℕ, ◌+◌, ◌*◌, ◌^◌, ◌<◌, ◌≤◌, ◌↔◌, Bool, true, false, List, All, length, map, slice_index}
use Rattle.std.specs.List.{range_with_len}
use Rattle.am_domain.specs.Domains.{DomainValue}
use Rattle.am_graph.specs.Graphs.{end_of}
use Rattle.am_world.specs.declared.generating.TheConstants.{MAX_HOPS, LOSS_ODDS, MAX_NODES}
use Rattle.am_world.specs.declared.generating.Way.{Way}
use Rattle.am_world.specs.declared.event.Event.{Event}
use Rattle.am_world.specs.declared.event.Event.TheVariants.{Hop}
use Rattle.am_world.specs.Generating.{drawn, draw_of, entries, links_from, read_at, IsBefore, link_drawn, took_drawn, way_over, IsLoss, IsPacket, AreFollowed}

-- where packets enter, and the links that begin at each node
pub record RoutesValue : Type 0 where
  pub entries : List ℕ
  pub links : List (List ℕ)

-- those of a domain
abbrev pub routes_of : DomainValue → RoutesValue
routes_of d = record {
  entries = entries d;
  links = map (links_from d.links) (range_with_len 0 (length d.nodes));
}

-- the place of a flow and a node in a table of all
abbrev pub place_at : ℕ → ℕ → ℕ
place_at flow node = flow * MAX_NODES + node

-- for each flow and node, the least block that is new there: one behind the greatest in which a packet was sent, or 0
pub record AreLeastNew (d : DomainValue) (events : List Event) (newest : List ℕ) : Type 0 where
  pub each : length newest ≡ length d.flows * MAX_NODES
  pub least : (flow node block : ℕ) → flow < length d.flows → node < MAX_NODES
      → (slice_index newest (place_at flow node) ≤ block) ↔ All (IsBefore d.times flow node block) events

-- a packet on its way may go on from here
pub record MayGoOn (d : DomainValue) (w : Way) : Type 0 where
  pub node : w.node < length d.nodes
  pub hops : w.hops ≤ MAX_HOPS
  pub took : w.took ≤ d.times.delay_max
  pub after : d.times.skew ≤ 2 * w.sent + 1
  pub before : w.sent ≤ 2 ^ 62

-- whether the packet is lost, where it made hops; a draw may say so
abbrev pub TellsLoss : Way → ℕ → ℕ → Bool → Type 0
TellsLoss w x y true = IsLoss w x y
TellsLoss w x y false = (w.hops < MAX_HOPS) × (draw_of LOSS_ODDS x ≢ 0) × (y ≡ drawn x)

-- the hop that is drawn, and the way after it
abbrev pub hop_drawn : DomainValue → Way → ℕ → Event
hop_drawn d w x =
    Hop w.packet (link_drawn d w x) (w.sent + took_drawn d w (drawn x))
    (read_at d.times (end_of d.links (link_drawn d w x)) (w.sent + took_drawn d w (drawn x)))

abbrev pub way_drawn : DomainValue → Way → ℕ → Way
way_drawn d w x = way_over d w (link_drawn d w x) (took_drawn d w (drawn x))

-- one packet more is made, and what is new after it is known
pub record MakesPacket (d : DomainValue) (packets i x : ℕ) (old : List Event) (y : ℕ) (new : List Event)
    (newest : List ℕ) : Type 0 where
  pub more : AreFollowed (λ own. IsPacket d packets i old x own y) old new
  pub known : AreLeastNew d new newest
