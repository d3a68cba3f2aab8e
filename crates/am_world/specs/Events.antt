-- The events of a world: packets are sent, hop over links, and are lost. All times are nanoseconds.
use Rattle.std.specs.Prelude.{ℕ, Bool, true, false, ◌==◌, List, [], ◌∷◌, filter, Option, Some, None}
use Rattle.am_domain.specs.declared.link.Edge.{Edge}
use Rattle.am_graph.specs.Graphs.{end_of}
use Rattle.am_world.specs.declared.event.Event.{Event}
use Rattle.am_world.specs.declared.event.Event.TheVariants.{Send, Hop, Lost}

-- the packet of an event
abbrev pub event_packet : Event → ℕ
event_packet (Send packet flow node time reading delay) = packet
event_packet (Hop packet link time reading) = packet
event_packet (Lost packet) = packet

-- the true time of an event; none is said of a loss
abbrev pub event_time : Event → ℕ
event_time (Send packet flow node time reading delay) = time
event_time (Hop packet link time reading) = time
event_time (Lost packet) = 0

-- what the clock of the node then reads, where the packet passes one
abbrev pub event_reading : Event → ℕ
event_reading (Send packet flow node time reading delay) = reading
event_reading (Hop packet link time reading) = reading
event_reading (Lost packet) = 0

-- a packet is lost
abbrev pub is_lost : Event → Bool
is_lost (Send packet flow node time reading delay) = false
is_lost (Hop packet link time reading) = false
is_lost (Lost packet) = true

-- the events of a packet, in their order
abbrev pub events_of : List Event → ℕ → List Event
events_of events packet = filter (λ e. event_packet e == packet) events

-- where a packet is after these events of its, if it was there before them: at the node where it was sent, or at the
-- end of the last link that it hopped over
abbrev pub node_after : List Edge → Option ℕ → List Event → Option ℕ
node_after links at [] = at
node_after links at (Send packet flow node time reading delay ∷ es) = node_after links (Some node) es
node_after links at (Hop packet link time reading ∷ es) = node_after links (Some (end_of links link)) es
node_after links at (Lost packet ∷ es) = node_after links at es

-- where a packet is after its events: at no node where there are none
abbrev pub present : List Edge → List Event → Option ℕ
present links es = node_after links None es
