-- What is known of a packet on its way, from the events of it that were seen.
use Rattle.std.specs.Prelude.{◌≡◌, ℕ, ⊤, ◌<◌, ◌||◌, false, List, [], ◌∷◌, length, nat_eq, Option, Some, None, unwrap_or}
use Rattle.std.specs.List.{list_any}
use Rattle.std.specs.declared.hash.FoldHasher.{FoldHasher}
use Rattle.std.specs.declared.hash.BuildHasherDefault.{BuildHasherDefault}
use Rattle.std.specs.HashMap.{get, HashMap}
use Rattle.am_domain.specs.declared.link.Edge.{Edge}
use Rattle.am_world.specs.declared.event.Event.{Event}
use Rattle.am_world.specs.declared.event.Event.TheVariants.{Send, Hop, Lost}
use Rattle.am_world.specs.declared.trip.Trip.{Trip}
use Rattle.am_world.specs.Events.{is_lost, node_after, events_of}

-- the link of the event exists
abbrev pub NamesLink : List Edge → Event → Type 0
NamesLink links (Send packet flow node time reading delay) = ⊤
NamesLink links (Hop packet link time reading) = link < length links
NamesLink links (Lost packet) = ⊤

-- when a packet was sent, by these events of its, if that was known so before them
abbrev pub sent_after : Option ℕ → List Event → Option ℕ
sent_after at [] = at
sent_after at (Send packet flow node time reading delay ∷ es) = sent_after (Some time) es
sent_after at (Hop packet link time reading ∷ es) = sent_after at es
sent_after at (Lost packet ∷ es) = sent_after at es

-- nothing is known of a packet without events
abbrev pub no_trip : Trip
no_trip = record { sent = None; node = None; lost = false }

-- what is known of a packet after these events of its, if this was known before them
abbrev pub trip_after : List Edge → Trip → List Event → Trip
trip_after links trip es = record {
  sent = sent_after trip.sent es;
  node = node_after links trip.node es;
  lost = trip.lost || list_any is_lost es;
}

-- what is known of each packet, and of one
abbrev pub Trips : Type 0
Trips = HashMap ℕ Trip (BuildHasherDefault FoldHasher)

abbrev pub trip_at : Trips → ℕ → Trip
trip_at trips packet = unwrap_or (get nat_eq trips packet) no_trip

-- after these events of all packets
abbrev pub AreTrips : List Edge → List Event → Trips → Type 0
AreTrips links events trips =
    (packet : ℕ) → trip_at trips packet ≡ trip_after links no_trip (events_of events packet)
