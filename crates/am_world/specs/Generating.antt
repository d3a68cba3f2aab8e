-- The world that a number makes: packets are sent one after another, and each goes on until it is delivered or lost. What
-- is chosen on the way is drawn from the number. All times are nanoseconds.
use Rattle.std.specs.Prelude.{◌≡◌, ◌≢◌, ℕ, zero, suc, ⊤, ◌+◌, ◌-◌, ◌*◌, ◌/◌, ◌%◌, ◌^◌, ◌<◌, ◌⊎◌, ◌↔◌, ◌==◌, Bool, true, false, if◌then◌else◌, IsTrue, List, [], ◌∷◌, ◌++◌, All, filter, length, max, slice_index}
use Rattle.std.specs.List.{range_with_len}
use Rattle.am_clock.specs.Times.{Times}
use Rattle.am_domain.specs.declared.link.Edge.{Edge}
use Rattle.am_domain.specs.Network.{has_links_in, has_links_out}
use Rattle.am_domain.specs.Domains.{DomainValue}
use Rattle.am_graph.specs.Graphs.{start_of, end_of}
use Rattle.am_control.specs.Plans.{nodes_without}
use Rattle.am_world.specs.declared.generating.TheConstants.{MAX_HOPS, LOSS_ODDS}
use Rattle.am_world.specs.declared.generating.Way.{Way}
use Rattle.am_world.specs.declared.event.Event.{Event}
use Rattle.am_world.specs.declared.event.Event.TheVariants.{Send, Hop, Lost}
use Rattle.am_world.specs.Passes.{block_at}

-- the number that a draw leaves, where it finds this one
abbrev pub drawn : ℕ → ℕ
drawn x = (x * 6364136223846793005 + 1442695040888963407) % 2 ^ 64

-- what it gives, of so many: a number below that
abbrev pub draw_of : ℕ → ℕ → ℕ
draw_of count x = drawn x / 65536 % count

-- the nodes at which no link ends, ascending: packets enter there
abbrev pub entries : DomainValue → List ℕ
entries d = nodes_without (has_links_in d.links) (length d.nodes)

-- the links that begin at the node, ascending
abbrev pub links_from : List Edge → ℕ → List ℕ
links_from links node = filter (λ link. start_of links link == node) (range_with_len 0 (length links))

-- what a node's clock reads at a time: it is half the skew fast where the node's number is even, and slow where it is odd
abbrev pub read_at : Times → ℕ → ℕ → ℕ
read_at t node time = if node % 2 == 0 then time + t.skew / 2 else time - t.skew / 2

-- how long the reported blocks last together
abbrev pub reported_time : DomainValue → ℕ
reported_time d = (d.end - d.first) * d.times.block

-- when the packet of this number, of so many, is sent: the packets are spread evenly over the reported blocks
abbrev pub sent_at : DomainValue → ℕ → ℕ → ℕ
sent_at d packets i = d.first * d.times.block + d.times.skew / 2 + i * reported_time d / packets

-- if a packet of this flow is sent here at this node, it is in a block before this one
abbrev pub IsBefore : Times → ℕ → ℕ → ℕ → Event → Type 0
IsBefore t flow node block (Send packet of_flow at time reading delay) =
    of_flow ≡ flow → at ≡ node → block_at t reading < block
IsBefore t flow node block (Hop packet link time reading) = ⊤
IsBefore t flow node block (Lost packet) = ⊤

-- a packet is sent so after these events: its flow is drawn, and then its node, of the entries; it has the delay bit where
-- its block is new for its flow at this node
pub record IsSent (d : DomainValue) (packets i : ℕ) (earlier : List Event) (x : ℕ) (packet flow node time reading : ℕ)
    (delay : Bool) : Type 0 where
  pub number : packet ≡ i
  pub of_flow : flow ≡ draw_of (length d.flows) x
  pub at_node : node ≡ slice_index (entries d) (draw_of (length (entries d)) (drawn x))
  pub at_time : time ≡ sent_at d packets i
  pub shown : reading ≡ read_at d.times node time
  pub marked : IsTrue delay ↔ All (IsBefore d.times flow node (block_at d.times reading)) earlier

-- a packet is on its way: where it was sent, it made no hop yet
abbrev pub way_from : ℕ → ℕ → ℕ → Way
way_from packet node time = record { packet = packet; sent = time; node = node; hops = 0; took = 0 }

-- the link that it takes next is drawn, of those that begin at its node
abbrev pub link_drawn : DomainValue → Way → ℕ → ℕ
link_drawn d w x = slice_index (links_from d.links w.node) (draw_of (length (links_from d.links w.node)) x)

-- how long it took then, since it was sent: the delay that is drawn, unless it took longer before
abbrev pub took_drawn : DomainValue → Way → ℕ → ℕ
took_drawn d w x = max w.took (d.times.delay_min + draw_of (d.times.delay_max - d.times.delay_min + 1) x)

-- the way after this hop
abbrev pub way_over : DomainValue → Way → ℕ → ℕ → Way
way_over d w link took =
    record { packet = w.packet; sent = w.sent; node = end_of d.links link; hops = w.hops + 1; took = took }

-- the packet hops over this link: it may make a hop more, no draw loses it, and then the link and the delay are drawn
pub record IsHop (d : DomainValue) (w : Way) (x : ℕ) (packet link time reading : ℕ) : Type 0 where
  pub number : packet ≡ w.packet
  pub few : w.hops < MAX_HOPS
  pub kept : draw_of LOSS_ODDS x ≢ 0
  pub over : link ≡ link_drawn d w (drawn x)
  pub at_time : time ≡ w.sent + took_drawn d w (drawn (drawn x))
  pub shown : reading ≡ read_at d.times (end_of d.links link) time

-- the packet is lost: it made all hops that it may make, and nothing is drawn; else by a draw
abbrev pub IsLoss : Way → ℕ → ℕ → Type 0
IsLoss w x y =
    ((w.hops ≡ MAX_HOPS) × (y ≡ x)) ⊎ ((w.hops < MAX_HOPS) × (draw_of LOSS_ODDS x ≡ 0) × (y ≡ drawn x))

-- from the number `x`, a packet on this way proceeds by these events, which leave the number `y`: it ends where no link
-- begins, else it hops or is lost
abbrev pub Proceeds : DomainValue → Way → ℕ → List Event → ℕ → Type 0
Proceeds d w x [] y = (has_links_out d.links w.node ≡ false) × (y ≡ x)
Proceeds d w x (Send packet flow node time reading delay ∷ es) y = ⊥
Proceeds d w x (Hop packet link time reading ∷ es) y =
    (has_links_out d.links w.node ≡ true) × IsHop d w x packet link time reading
    × Proceeds d (way_over d w link (took_drawn d w (drawn (drawn x)))) (drawn (drawn (drawn x))) es y
Proceeds d w x (Lost packet ∷ es) y =
    (has_links_out d.links w.node ≡ true) × (packet ≡ w.packet) × IsLoss w x y × (es ≡ [])

-- after these events of earlier packets, and from the number `x`, these are all events of the packet of this number, of so
-- many: it is sent, and then proceeds. They leave the number `y`
abbrev pub IsPacket : DomainValue → ℕ → ℕ → List Event → ℕ → List Event → ℕ → Type 0
IsPacket d packets i earlier x [] y = ⊥
IsPacket d packets i earlier x (Send packet flow node time reading delay ∷ es) y =
    IsSent d packets i earlier x packet flow node time reading delay
    × Proceeds d (way_from packet node time) (drawn (drawn x)) es y
IsPacket d packets i earlier x (Hop packet link time reading ∷ es) y = ⊥
IsPacket d packets i earlier x (Lost packet ∷ es) y = ⊥

-- after such events come some that are so
pub record AreFollowed (Own : List Event → Type 0) (earlier events : List Event) : Type 0 where
  pub own : List Event
  pub all : events ≡ earlier ++ own
  pub so : Own own

-- one packet more
pub record IsOneMore (Before : List Event → ℕ → Type 0) (Own : List Event → ℕ → List Event → ℕ → Type 0)
    (events : List Event) (y : ℕ) : Type 0 where
  pub earlier : List Event
  pub left : ℕ
  pub made : Before earlier left
  pub more : AreFollowed (λ own. Own earlier left own y) earlier events

-- the events of the first `i` packets, of so many, one after another. The first packet finds the world's number, and each
-- other one the number that the one before left; the last of them leaves `y`
abbrev pub ArePackets : DomainValue → ℕ → ℕ → ℕ → List Event → ℕ → Type 0
ArePackets d number packets zero events y = (events ≡ []) × (y ≡ number)
ArePackets d number packets (suc i) events y =
    IsOneMore (ArePackets d number packets i) (IsPacket d packets i) events y

-- these are the events of the world that the number makes of so many packets: there are none without an entry
pub record IsMade (d : DomainValue) (number packets : ℕ) (events : List Event) : Type 0 where
  pub without : length (entries d) ≡ 0 → events ≡ []
  pub among : 0 < length (entries d) → (y : ℕ) × ArePackets d number packets packets events y
