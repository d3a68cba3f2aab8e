-- What the captures at the two ends of a link tell: the packets that were dropped between them (RFC 9341, section 3.1;
-- RFC 9343, section 5.1).
use Rattle.std.specs.Prelude.{◌≡◌, ℕ, ◌+◌, ◌<◌, Bool, ◌==◌, List, length, count_by, slice_index_or}
use Rattle.am_domain.specs.declared.link.Edge.{Edge}
use Rattle.am_domain.specs.Values.{FlowValue, NodeValue}
use Rattle.am_domain.specs.Network.{Covers}
use Rattle.am_domain.specs.Domains.{DomainValue}
use Rattle.am_graph.specs.Graphs.{start_of, end_of}
use Rattle.am_meter.specs.declared.stream.Marked.{Marked}
use Rattle.am_meter.specs.Metering.{counts_in, node_shift}
use Rattle.am_world.specs.declared.event.Event.{Event}
use Rattle.am_world.specs.Worlds.{IsValid, IsTimed}
use Rattle.am_world.specs.Passes.{sends, passed_at, Records}
use Rattle.am_world.specs.Drops.{dropped_at}

-- no other link begins where this one begins, and none ends where it ends. So it is a cluster by itself
pub record StandsAlone (links : List Edge) (link : ℕ) : Type 0 where
  pub within : link < length links
  pub begins : (other : ℕ) → other < length links → start_of links other ≡ start_of links link → other ≡ link
  pub ends : (other : ℕ) → other < length links → end_of links other ≡ end_of links link → other ≡ link

-- the span of the node's capture covers the block: it has each reading of the block's window there
abbrev pub CoversAt : DomainValue → ℕ → ℕ → Type 0
CoversAt d node block =
    (n : NodeValue) → Covers d.times (slice_index_or d.nodes node n) (node_shift d node) block

-- the captures of both ends of the link cover the block
pub record CoverEnds (d : DomainValue) (link block : ℕ) : Type 0 where
  pub start : CoversAt d (start_of d.links link) block
  pub end : CoversAt d (end_of d.links link) block

-- the captures of both ends of the link, by their marked records, record a valid world whose clocks and delays are
-- within the bounds of the domain
pub record RecordEnds (d : DomainValue) (events : List Event) (link : ℕ) (ups downs : List Marked) : Type 0 where
  pub valid : IsValid d events
  pub timed : IsTimed d.times events
  pub start : Records d events (start_of d.links link) ups
  pub end : Records d events (end_of d.links link) downs

-- the link begins at the node, or it ends there
abbrev pub is_start_of : List Edge → ℕ → ℕ → Bool
is_start_of links link node = node == start_of links link

abbrev pub is_end_of : List Edge → ℕ → ℕ → Bool
is_end_of links link node = node == end_of links link

-- how many packets that are sent so are dropped between the ends of the link: they are lost, and the last node that
-- they passed is the link's start
abbrev pub dropped_on : List Edge → ℕ → (Event → Bool) → List Event → ℕ
dropped_on links link so events = dropped_at links (is_start_of links link) so events

-- how many marked records of the node's capture count for the flow and the block
abbrev pub counted_at : DomainValue → ℕ → ℕ → FlowValue → ℕ → List Marked → ℕ
counted_at d node flow f block ms =
    count_by (counts_in d.times (slice_index_or d.flows flow f).id (node_shift d node) block) ms

-- of this flow and this block, at each end of the link as many records count as packets passed there, and what counts
-- at its start counts at its end or was dropped between
pub record TellsLink (d : DomainValue) (events : List Event) (link : ℕ) (ups downs : List Marked) (flow block : ℕ)
    : Type 0 where
  pub entered : (f : FlowValue) → counted_at d (start_of d.links link) flow f block ups
      ≡ passed_at d.links (is_start_of d.links link) (sends d.times flow block) events
  pub left : (f : FlowValue) → counted_at d (end_of d.links link) flow f block downs
      ≡ passed_at d.links (is_end_of d.links link) (sends d.times flow block) events
  pub lost : (f : FlowValue) → counted_at d (start_of d.links link) flow f block ups
      ≡ counted_at d (end_of d.links link) flow f block downs
      + dropped_on d.links link (sends d.times flow block) events
