-- Worlds that can be: what a network must be for its loss to be known from captures (RFC 9341, section 3.1; RFC 9342,
-- section 4). Nothing is duplicated or fragmented, and packets enter where no link ends and leave where none begins.
use Rattle.std.specs.Prelude.{◌≡◌, ℕ, ⊤, ◌+◌, ◌-◌, ◌*◌, ◌<◌, ◌≤◌, false, List, [], ◌∷◌, All, length, Some}
use Rattle.std.specs.List.{list_any}
use Rattle.am_clock.specs.Times.{Times}
use Rattle.am_domain.specs.declared.link.Edge.{Edge}
use Rattle.am_domain.specs.Network.{has_links_in, has_links_out}
use Rattle.am_domain.specs.Domains.{DomainValue}
use Rattle.am_graph.specs.Graphs.{start_of, end_of}
use Rattle.am_world.specs.declared.event.Event.{Event}
use Rattle.am_world.specs.declared.event.Event.TheVariants.{Send, Hop, Lost}
use Rattle.am_world.specs.Events.{events_of, is_lost, present}

-- from this node a packet travels on so: it hops over links, each of which begins where the packet is, and at last it
-- may be lost
abbrev pub Travels : List Edge → ℕ → List Event → Type 0
Travels links node [] = ⊤
Travels links node (Send packet flow at time reading delay ∷ es) = ⊥
Travels links node (Hop packet link time reading ∷ es) =
    (link < length links) × (start_of links link ≡ node) × Travels links (end_of links link) es
Travels links node (Lost packet ∷ es) = es ≡ []

-- the events of one packet are a journey: there are none, or it is sent once, at a node at which no link ends, and then
-- travels on. Its flow and its nodes are the domain's
abbrev pub IsJourney : DomainValue → List Event → Type 0
IsJourney d [] = ⊤
IsJourney d (Send packet flow node time reading delay ∷ es) =
    (flow < length d.flows) × (node < length d.nodes) × (has_links_in d.links node ≡ false) × Travels d.links node es
IsJourney d (Hop packet link time reading ∷ es) = ⊥
IsJourney d (Lost packet ∷ es) = ⊥

-- the events of each packet are a journey
abbrev pub AreJourneys : DomainValue → List Event → Type 0
AreJourneys d events = (packet : ℕ) → IsJourney d (events_of events packet)

-- a packet with these events is delivered unless it was lost: it ends at a node at which no link begins
abbrev pub IsOver : List Edge → List Event → Type 0
IsOver links es =
    (node : ℕ) → list_any is_lost es ≡ false → present links es ≡ Some node → has_links_out links node ≡ false

-- a valid world: each packet goes on a journey, and none stays under way
pub record IsValid (d : DomainValue) (events : List Event) : Type 0 where
  pub journeys : AreJourneys d events
  pub over : (packet : ℕ) → IsOver d.links (events_of events packet)

-- the reading is at most half the skew away from the time, so that two clocks differ by at most the skew
pub record IsNear (t : Times) (time reading : ℕ) : Type 0 where
  pub behind : 2 * (time - reading) ≤ t.skew
  pub ahead : 2 * (reading - time) ≤ t.skew

-- the clock that sees the event is right to half the skew
abbrev pub IsOnTime : Times → Event → Type 0
IsOnTime t (Send packet flow node time reading delay) = IsNear t time reading
IsOnTime t (Hop packet link time reading) = IsNear t time reading
IsOnTime t (Lost packet) = ⊤

-- where this is a hop of the packet that is sent there, it comes at least the least delay after that, and at most the
-- greatest. So both bound the whole way from where the packet is marked
abbrev pub IsInTime : Times → Event → Event → Type 0
IsInTime t (Send packet flow node sent read delay) (Hop other link time reading) =
    packet ≡ other → (sent + t.delay_min ≤ time) × (time ≤ sent + t.delay_max)
IsInTime t _ _ = ⊤

-- a timed world: clocks and delays are within the bounds of the domain (RFC 9341, section 5)
pub record IsTimed (t : Times) (events : List Event) : Type 0 where
  pub clocks : All (IsOnTime t) events
  pub delays : All (λ sent. All (IsInTime t sent) events) events
