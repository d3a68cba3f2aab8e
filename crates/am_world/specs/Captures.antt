-- The capture of a node: the bytes of a file with a record of each packet that passed the node in the span that the domain
-- says (RFC 8200, section 3; RFC 9343, section 4; the pcap savefile format).
use Rattle.std.specs.Prelude.{◌≡◌, ℕ, ⊤, ◌/◌, ◌%◌, ◌^◌, ◌<◌, Bool, true, false, ◌&&◌, ◌==◌, nat_eq, nat_le, nat_lt, if◌then◌else◌, List, [], ◌∷◌, ◌++◌, length, flat_map, slice_index_or, Option, Some, None, IfSome}
use Rattle.std.specs.Int.{w32, to_be_bytes}
use Rattle.std.specs.declared.hash.FoldHasher.{FoldHasher}
use Rattle.std.specs.declared.hash.BuildHasherDefault.{BuildHasherDefault}
use Rattle.std.specs.HashMap.{get, HashMap}
use Rattle.am_opts.specs.Marking.{Marking, mark_of, data_of}
use Rattle.am_ip6.specs.declared.marks.Place.{Place}
use Rattle.am_ip6.specs.declared.marks.Place.TheVariants.{HopByHop, Destination}
use Rattle.am_ip6.specs.Marks.{hop_by_hop, destination}
use Rattle.am_pcap.specs.Packets.{Packet}
use Rattle.am_pcap.specs.Captures.{IsCapture}
use Rattle.am_pcap.specs.Spelling.{capture_bytes, record_bytes}
use Rattle.am_pcap.specs.declared.frame.LinkKind.TheVariants.{RawIp}
use Rattle.am_pcap.specs.declared.head.Head.{Head}
use Rattle.am_domain.specs.Values.{FlowValue, NodeValue}
use Rattle.am_domain.specs.Domains.{DomainValue}
use Rattle.am_meter.specs.Marks.{AreMarked}
use Rattle.am_meter.specs.declared.stream.Marked.{Marked}
use Rattle.am_world.specs.declared.capture.Sent.{Sent}
use Rattle.am_world.specs.declared.event.Event.{Event}
use Rattle.am_world.specs.declared.event.Event.TheVariants.{Send, Hop, Lost}
use Rattle.am_world.specs.Events.{event_packet, event_reading, events_of}
use Rattle.am_world.specs.Passes.{passes, block_at, Records}

-- the flow of this number
abbrev pub flow_at : DomainValue → ℕ → FlowValue
flow_at d flow = slice_index_or d.flows flow (record {
  name = [];
  id = 0;
  source = record { bytes = []; length = 0 };
  destination = record { bytes = []; length = 0 };
})

-- the node of this number
abbrev pub node_at : DomainValue → ℕ → NodeValue
node_at d node = slice_index_or d.nodes node (record { name = []; capture = []; from = 0; until = 0 })

-- the mark of a packet that is sent so: the number of its flow, the colour of the block that holds the reading, and the
-- delay bit
abbrev pub mark_at : DomainValue → ℕ → ℕ → Bool → Marking
mark_at d flow reading delay = mark_of (flow_at d flow).id (block_at d.times reading % 2 == 1) delay

-- how a packet was sent, by these events of its, if that was known so before them
abbrev pub sending_after : DomainValue → Option Sent → List Event → Option Sent
sending_after d at [] = at
sending_after d at (Send packet flow node time reading delay ∷ es) =
    sending_after d (Some (record { flow = flow; mark = mark_at d flow reading delay })) es
sending_after d at (Hop packet link time reading ∷ es) = sending_after d at es
sending_after d at (Lost packet ∷ es) = sending_after d at es

-- how the packet of the event was sent
abbrev pub sending_of : DomainValue → List Event → Event → Option Sent
sending_of d events e = sending_after d None (events_of events (event_packet e))

-- the number that announces a header of this kind
abbrev pub header_number : Place → ℕ
header_number HopByHop = hop_by_hop
header_number Destination = destination

-- the option that says the mark
abbrev pub option_bytes : Marking → List ℕ
option_bytes m = 0x12 ∷ 4 ∷ to_be_bytes w32 (data_of m 0)

-- a packet that was sent so, of 48 bytes: the fixed header, with the first address of each prefix of the flow, and a header
-- of eight bytes with the mark, after which nothing follows (59: RFC 8200, section 4.7)
abbrev pub packet_bytes : DomainValue → Sent → List ℕ
packet_bytes d s =
    0x60 ∷ 0 ∷ 0 ∷ 0 ∷ 0 ∷ 8 ∷ header_number d.kind ∷ 64
    ∷ ((flow_at d s.flow).source.bytes ++ (flow_at d s.flow).destination.bytes ++ 59 ∷ 0 ∷ option_bytes s.mark)

-- the record of it at this reading
abbrev pub packet_at : DomainValue → ℕ → Sent → Packet
packet_at d reading s = record {
  seconds = reading / 10 ^ 9;
  fraction = reading % 10 ^ 9;
  original = 48;
  bytes = packet_bytes d s;
}

-- a packet passes the node at a reading in the span of the node's capture
abbrev pub is_captured : DomainValue → ℕ → Event → Bool
is_captured d node e =
    passes d.links (λ n. n == node) e
    && (nat_le (node_at d node).from (event_reading e) && nat_lt (event_reading e) (node_at d node).until)

-- the records of the packet, if there is one, at this reading
abbrev pub records_at : DomainValue → ℕ → Option Sent → List Packet
records_at d reading None = []
records_at d reading (Some s) = packet_at d reading s ∷ []

-- the records of an event: one where a packet passes the node in the span, by how it was sent, and else none
abbrev pub captured : DomainValue → ℕ → Option Sent → Event → List Packet
captured d node sent e = if is_captured d node e then records_at d (event_reading e) sent else []

-- the records of all events, in their order
abbrev pub node_records : DomainValue → List Event → ℕ → List Packet
node_records d events node = flat_map (λ e. captured d node (sending_of d events e) e) events

-- the file header: the lowest byte of a number stands first, fractions are nanoseconds, version 2.4, at most 262,144 bytes
-- of a packet, and packets begin with IP
abbrev pub node_head : Head
node_head = record {
  raw = 0x4d ∷ 0x3c ∷ 0xb2 ∷ 0xa1 ∷ 2 ∷ 0 ∷ 4 ∷ 0 ∷ 0 ∷ 0 ∷ 0 ∷ 0 ∷ 0 ∷ 0 ∷ 0 ∷ 0 ∷ 0 ∷ 0 ∷ 4 ∷ 0 ∷ 101 ∷ 0 ∷ 0 ∷ 0 ∷ [];
  form = record { big = false; nano = true };
  link = RawIp;
}

-- the bytes of the node's capture
abbrev pub node_capture : DomainValue → List Event → ℕ → List ℕ
node_capture d events node = capture_bytes node_head (node_records d events node)

-- the bytes are a capture, no record of it has headers that are cut, and its marked records record the world at the node
pub record IsRecordOf (d : DomainValue) (events : List Event) (node : ℕ) (bytes : List ℕ) : Type 0 where
  pub head : Head
  pub packets : List Packet
  pub capture : IsCapture bytes head packets
  pub marked : List Marked
  pub uncut : AreMarked d.kind head 1 packets marked
  pub records : Records d events node marked

-- the flow or the link that the event names exists
abbrev pub NamesThere : DomainValue → Event → Type 0
NamesThere d (Send packet flow node time reading delay) = flow < length d.flows
NamesThere d (Hop packet link time reading) = link < length d.links
NamesThere d (Lost packet) = ⊤

-- how each packet was sent, and one
abbrev pub Sendings : Type 0
Sendings = HashMap ℕ Sent (BuildHasherDefault FoldHasher)

abbrev pub sending_at : Sendings → ℕ → Option Sent
sending_at sendings packet = get nat_eq sendings packet

-- by these events of all packets
abbrev pub AreSendings : DomainValue → List Event → Sendings → Type 0
AreSendings d events sendings =
    (packet : ℕ) → sending_at sendings packet ≡ sending_after d None (events_of events packet)

-- the flow of each packet that was sent exists
abbrev pub HaveFlows : DomainValue → Sendings → Type 0
HaveFlows d sendings = (packet : ℕ) → IfSome (sending_at sendings packet) (λ s. s.flow < length d.flows)

-- the record is of a packet of 48 bytes, and its seconds have 32 bits
pub record IsSized (p : Packet) : Type 0 where
  pub bytes : length p.bytes ≡ 48
  pub seconds : p.seconds < 2 ^ 32

-- the bytes of the records of an event, in the order of the file
abbrev pub captured_bytes : DomainValue → ℕ → Option Sent → Event → List ℕ
captured_bytes d node sent e = flat_map (λ p. record_bytes false p) (captured d node sent e)
