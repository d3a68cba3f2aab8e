-- Which rules the events of a world break, and which breach is the first.
use Rattle.std.specs.Prelude.{◌≡◌, ℕ, ◌+◌, ◌-◌, ◌*◌, ◌<◌, Bool, true, false, ◌&&◌, ◌||◌, ◌==◌, not, nat_lt, nat_le, is_some, List, length, take, slice_index_or, Option, Some, None, IsTrue, ◌⊎◌}
use Rattle.am_clock.specs.Times.{Times}
use Rattle.am_domain.specs.declared.link.Edge.{Edge}
use Rattle.am_domain.specs.Network.{has_links_in, has_links_out}
use Rattle.am_domain.specs.Domains.{DomainValue}
use Rattle.am_graph.specs.Graphs.{start_of}
use Rattle.am_world.specs.declared.event.Event.{Event}
use Rattle.am_world.specs.declared.event.Event.TheVariants.{Send, Hop, Lost}
use Rattle.am_world.specs.declared.rule.Rule.{Rule}
use Rattle.am_world.specs.declared.rule.Rule.TheVariants.{BadNumber, PacketTwice, NotEntry, UnknownPacket, AfterLost, WrongNode, Unfinished, ClockWide, DelayWide}
use Rattle.am_world.specs.declared.rule.Breach.{Breach}
use Rattle.am_world.specs.declared.trip.Trip.{Trip}
use Rattle.am_world.specs.Events.{event_packet, events_of}
use Rattle.am_world.specs.Worlds.{IsValid, IsTimed}
use Rattle.am_world.specs.Drops.{is_at, is_waiting}
use Rattle.am_world.specs.Trips.{no_trip, trip_after, Trips, trip_at}

-- a packet is sent
abbrev pub is_send : Event → Bool
is_send (Send packet flow node time reading delay) = true
is_send (Hop packet link time reading) = false
is_send (Lost packet) = false

-- the event names a flow, a node or a link that the domain does not have
abbrev pub misnames : DomainValue → Event → Bool
misnames d (Send packet flow node time reading delay) = nat_le (length d.flows) flow || nat_le (length d.nodes) node
misnames d (Hop packet link time reading) = nat_le (length d.links) link
misnames d (Lost packet) = false

-- a packet is sent at a node at which a link ends
abbrev pub is_sent_inside : List Edge → Event → Bool
is_sent_inside links (Send packet flow node time reading delay) = has_links_in links node
is_sent_inside links (Hop packet link time reading) = false
is_sent_inside links (Lost packet) = false

-- there is a node, and the link of this number begins there
abbrev pub begins_at : List Edge → Option ℕ → ℕ → Bool
begins_at links at link = nat_lt link (length links) && is_at (λ node. start_of links link == node) at

-- a packet that is at this node hops over a link that does not begin there
abbrev pub strays : List Edge → Option ℕ → Event → Bool
strays links at (Send packet flow node time reading delay) = false
strays links at (Hop packet link time reading) = not (begins_at links at link)
strays links at (Lost packet) = false

-- twice the distance of time and reading is above the skew
abbrev pub are_apart : Times → ℕ → ℕ → Bool
are_apart t time reading = nat_lt t.skew (2 * (time - reading)) || nat_lt t.skew (2 * (reading - time))

-- the clock that sees the event is wrong by more than half the skew
abbrev pub is_off : Times → Event → Bool
is_off t (Send packet flow node time reading delay) = are_apart t time reading
is_off t (Hop packet link time reading) = are_apart t time reading
is_off t (Lost packet) = false

-- the time is earlier than the least delay after the packet was sent, or later than the greatest
abbrev pub is_beyond : Times → ℕ → ℕ → Bool
is_beyond t sent time = nat_lt time (sent + t.delay_min) || nat_lt (sent + t.delay_max) time

-- a packet that was sent at this time hops then
abbrev pub is_untimely : Times → Option ℕ → Event → Bool
is_untimely t sent (Send packet flow node time reading delay) = false
is_untimely t sent (Hop packet link time reading) = is_at (λ sent. is_beyond t sent time) sent
is_untimely t sent (Lost packet) = false

-- where this is known of its packet before, the event breaks the rule. `Unfinished` is broken only by all events
abbrev pub breaks_rule : DomainValue → Trip → Event → Rule → Bool
breaks_rule d trip e BadNumber = misnames d e
breaks_rule d trip e PacketTwice = is_send e && is_some trip.sent
breaks_rule d trip e NotEntry = is_sent_inside d.links e
breaks_rule d trip e UnknownPacket = not (is_send e) && not (is_some trip.sent)
breaks_rule d trip e AfterLost = not (is_send e) && trip.lost
breaks_rule d trip e WrongNode = strays d.links trip.node e
breaks_rule d trip e ClockWide = is_off d.times e
breaks_rule d trip e DelayWide = is_untimely d.times trip.sent e
breaks_rule d trip e Unfinished = false

-- by what is known of all packets, the one that is sent here is neither lost nor at a node without links out
abbrev pub stays : List Edge → Trips → Event → Bool
stays links trips e =
    is_send e && (not (trip_at trips (event_packet e)).lost
    && is_at (has_links_out links) (trip_at trips (event_packet e)).node)

-- the packet that is sent here is so when all events are over
abbrev pub is_unfinished : DomainValue → List Event → Event → Bool
is_unfinished d events e = is_send e && is_waiting d.links (has_links_out d.links) (events_of events (event_packet e))

-- the event of this number
abbrev pub event_at : List Event → ℕ → Event
event_at events k = slice_index_or events k (Lost 0)

-- what is known of its packet before it
abbrev pub trip_before : DomainValue → List Event → ℕ → Trip
trip_before d events k = trip_after d.links no_trip (events_of (take k events) (event_packet (event_at events k)))

-- the event of this number breaks the rule
abbrev pub breaks : DomainValue → List Event → ℕ → Rule → Bool
breaks d events k Unfinished = is_unfinished d events (event_at events k)
breaks d events k rule = breaks_rule d (trip_before d events k) (event_at events k) rule

-- the place of a rule in the order in which an event is looked at
abbrev pub place_of : Rule → ℕ
place_of BadNumber = 0
place_of PacketTwice = 1
place_of NotEntry = 2
place_of UnknownPacket = 3
place_of AfterLost = 4
place_of WrongNode = 5
place_of ClockWide = 6
place_of DelayWide = 7
place_of Unfinished = 8

-- the rule comes after all events
abbrev pub is_last : Rule → Bool
is_last rule = place_of rule == 8

-- a breach comes before another: those of single events before those of all events, then by the events in their order,
-- and at one event by the rules in theirs
abbrev pub ComesBefore : Breach → Breach → Type 0
ComesBefore a b =
    (IsTrue (not (is_last a.rule)) × IsTrue (is_last b.rule))
    ⊎ ((is_last a.rule ≡ is_last b.rule)
    × ((a.event < b.event) ⊎ ((a.event ≡ b.event) × (place_of a.rule < place_of b.rule))))

-- this is the first breach: an event breaks the rule, and there is no breach before
pub record IsFirstBreach (d : DomainValue) (events : List Event) (b : Breach) : Type 0 where
  pub within : b.event < length events
  pub broken : breaks d events b.event b.rule ≡ true
  pub first : (a : Breach) → ComesBefore a b → a.event < length events → breaks d events a.event a.rule ≡ false

-- the world is valid, and its clocks and delays are within the bounds of the domain
pub record IsValidAndTimed (d : DomainValue) (events : List Event) : Type 0 where
  pub valid : IsValid d events
  pub timed : IsTimed d.times events

-- of a packet of which this is known, the event breaks no rule; or it breaks this one, and none that comes before
abbrev pub TellsRule : DomainValue → Trip → Event → Option Rule → Type 0
TellsRule d trip e None = (rule : Rule) → breaks_rule d trip e rule ≡ false
TellsRule d trip e (Some rule) =
    (breaks_rule d trip e rule ≡ true)
    × ((other : Rule) → place_of other < place_of rule → breaks_rule d trip e other ≡ false)

-- the first events break no rule
abbrev pub KeepRules : DomainValue → List Event → ℕ → Type 0
KeepRules d events n =
    (k : ℕ) (rule : Rule) → k < n → breaks_rule d (trip_before d events k) (event_at events k) rule ≡ false

-- the first breach of a single event, if there is one
abbrev pub TellsBreach : DomainValue → List Event → Option Breach → Type 0
TellsBreach d events None = KeepRules d events (length events)
TellsBreach d events (Some b) =
    (b.event < length events) × TellsRule d (trip_before d events b.event) (event_at events b.event) (Some b.rule)
    × KeepRules d events b.event

-- the packets that are sent by the first events are delivered, or lost
abbrev pub AreOver : DomainValue → List Event → ℕ → Type 0
AreOver d events n = (k : ℕ) → k < n → is_unfinished d events (event_at events k) ≡ false

-- the first event that sends a packet which is neither, if there is one
abbrev pub TellsUnfinished : DomainValue → List Event → Option Breach → Type 0
TellsUnfinished d events None = AreOver d events (length events)
TellsUnfinished d events (Some b) =
    (b.event < length events) × (b.rule ≡ Unfinished) × (is_unfinished d events (event_at events b.event) ≡ true)
    × AreOver d events b.event
