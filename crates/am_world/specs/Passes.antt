-- What passes the nodes of a world, and when a capture records it (RFC 9341, section 3.1; RFC 9343, section 5). All
-- times are nanoseconds.
use Rattle.std.specs.Prelude.{◌≡◌, ℕ, ◌/◌, ◌%◌, ◌<◌, ◌≤◌, Bool, false, ◌&&◌, ◌==◌, List, count_by, length, slice_index_or}
use Rattle.std.specs.List.{list_any}
use Rattle.am_clock.specs.Times.{Times, parity}
use Rattle.am_domain.specs.declared.link.Edge.{Edge}
use Rattle.am_domain.specs.Values.{FlowValue, NodeValue}
use Rattle.am_domain.specs.Domains.{DomainValue}
use Rattle.am_graph.specs.Graphs.{end_of}
use Rattle.am_meter.specs.declared.stream.Marked.{Marked}
use Rattle.am_world.specs.declared.event.Event.{Event}
use Rattle.am_world.specs.declared.event.Event.TheVariants.{Send, Hop, Lost}
use Rattle.am_world.specs.Events.{event_packet, event_reading, events_of}

-- a packet passes one of these nodes: it is sent there, or hops over a link that ends there
abbrev pub passes : List Edge → (ℕ → Bool) → Event → Bool
passes links here (Send packet flow node time reading delay) = here node
passes links here (Hop packet link time reading) = here (end_of links link)
passes links here (Lost packet) = false

-- the block that a packet is marked in where the marking node's clock reads this: the one that holds the reading
abbrev pub block_at : Times → ℕ → ℕ
block_at t reading = reading / t.block

-- a packet of the flow is sent in the block
abbrev pub sends : Times → ℕ → ℕ → Event → Bool
sends t flow block (Send packet of_flow node time reading delay) = of_flow == flow && block_at t reading == block
sends t flow block (Hop packet link time reading) = false
sends t flow block (Lost packet) = false

-- it is, with the delay bit
abbrev pub sends_delayed : Times → ℕ → ℕ → Event → Bool
sends_delayed t flow block (Send packet of_flow node time reading delay) =
    (of_flow == flow && block_at t reading == block) && delay
sends_delayed t flow block (Hop packet link time reading) = false
sends_delayed t flow block (Lost packet) = false

-- a bit that is this one
abbrev pub is_bit : Bool → Bool → Bool
is_bit a b = parity a == parity b

-- a packet is sent with this mark: of the flow, in a block of the colour, and with the delay bit or without
abbrev pub sends_marked : Times → ℕ → Bool → Bool → Event → Bool
sends_marked t flow colour delayed (Send packet of_flow node time reading delay) =
    (of_flow == flow && block_at t reading % 2 == parity colour) && is_bit delay delayed
sends_marked t flow colour delayed (Hop packet link time reading) = false
sends_marked t flow colour delayed (Lost packet) = false

-- the packet of the event is sent so
abbrev pub is_sent : (Event → Bool) → List Event → Event → Bool
is_sent so events e = list_any so (events_of events (event_packet e))

-- a packet that is sent so passes one of these nodes
abbrev pub passes_sent : List Edge → (ℕ → Bool) → (Event → Bool) → List Event → Event → Bool
passes_sent links here so events e = passes links here e && is_sent so events e

-- how many packets that are sent so pass one of these nodes; a packet counts each time
abbrev pub passed_at : List Edge → (ℕ → Bool) → (Event → Bool) → List Event → ℕ
passed_at links here so events = count_by (passes_sent links here so events) events

-- the reading is in the span of the node's capture
pub record IsInSpan (d : DomainValue) (node reading : ℕ) : Type 0 where
  pub from : (n : NodeValue) → (slice_index_or d.nodes node n).from ≤ reading
  pub until : (n : NodeValue) → reading < (slice_index_or d.nodes node n).until

-- a marked record has this reading and this mark
abbrev pub is_marked_so : ℕ → ℕ → Bool → Bool → Marked → Bool
is_marked_so reading id colour delayed m =
    m.reading == reading && ((m.mark.flow == id && is_bit m.mark.loss colour) && is_bit m.mark.delay delayed)

-- a packet passes the node at this reading, and was sent with this mark
abbrev pub passes_so : DomainValue → List Event → ℕ → ℕ → ℕ → Bool → Bool → Event → Bool
passes_so d events node reading flow colour delayed e =
    event_reading e == reading
    && passes_sent d.links (λ n. n == node) (sends_marked d.times flow colour delayed) events e

-- these marked records of a node's capture record the world: for each reading in the capture's span, and each mark of a
-- flow of the domain, there are as many as packets passed with it
abbrev pub Records : DomainValue → List Event → ℕ → List Marked → Type 0
Records d events node ms =
    (reading flow : ℕ) (colour delayed : Bool) (f : FlowValue)
    → IsInSpan d node reading → flow < length d.flows
    → count_by (is_marked_so reading (slice_index_or d.flows flow f).id colour delayed) ms
    ≡ count_by (passes_so d events node reading flow colour delayed) events
