-- What the events of a packet are that goes on as it is drawn: it travels over links, in time, and ends where it may.
use Rattle.std.proofs.Common.{◌≡◌, ◌∙◌, ℕ, ◌+◌, ◌-◌, ◌/◌, ◌%◌, ◌<◌, ◌≤◌, Bool, true, false, eqb, List, [], ◌∷◌, length, Some, refl, sym, ap, subst, arith, inl, inr}
use Rattle.std.specs.Prelude.{All}
use Rattle.std.specs.List.{list_any}
use Rattle.std.proofs.lemmas.Bool.{false≢true, cases_Bool}
use Rattle.std.proofs.lemmas.Nat.{mod_below}
use Rattle.std.proofs.lemmas.List.Elements.{All-nil, All-cons}
use Rattle.std.proofs.Math.Nat.{le-max_right, max-le}
use Rattle.am_clock.specs.Times.{Times}
use Rattle.am_domain.specs.Network.{has_links_in, has_links_out}
use Rattle.am_domain.specs.Domains.{DomainValue, IsLawful}
use Rattle.am_graph.specs.Graphs.{start_of, end_of}
use Rattle.am_world.specs.declared.generating.Way.{Way}
use Rattle.am_world.specs.declared.event.Event.{Event}
use Rattle.am_world.specs.declared.event.Event.TheVariants.{Send, Hop, Lost}
use Rattle.am_world.specs.Events.{event_packet, is_lost, node_after}
use Rattle.am_world.specs.Worlds.{Travels, IsJourney, IsOver, IsNear, IsOnTime, IsInTime}
use Rattle.am_world.specs.Generating.{drawn, draw_of, entries, links_from, read_at, IsBefore, way_from, link_drawn, took_drawn, way_over, Proceeds, IsPacket}
use Rattle.am_world.proofs.RouteLemmas.{entry-within, entry-enters, from-within, from-begins, out-some}

-- a draw of so many is below that
pub draw-below : (count x : ℕ) → 0 < count → draw_of count x < count
draw-below count x some = mod_below (drawn x / 65536) count some

-- the reading at a node is half the skew away from the time
pub near-read : (t : Times) (node time : ℕ) → IsNear t time (read_at t node time)
near-read t node time = elim (cases_Bool (eqb (node % 2) 0)) [
  | inl even ↦
      let is : read_at t node time ≡ time + t.skew / 2 = rw even refl in
      record { behind = omega (arith, is); ahead = omega (arith, is) }
  | inr odd ↦
      let is : read_at t node time ≡ time - t.skew / 2 = rw odd refl in
      record { behind = omega (arith, is); ahead = omega (arith, is) }
]

-- a packet takes at most the greatest delay, and at least the least
pub took-most : (d : DomainValue) (w : Way) (x : ℕ) → d.times.delay_min ≤ d.times.delay_max → w.took ≤ d.times.delay_max
    → took_drawn d w x ≤ d.times.delay_max
took-most d w x ordered took =
    let drawn' = draw-below (d.times.delay_max - d.times.delay_min + 1) x (omega arith) in
    max-le took (omega (arith, drawn', ordered))

pub took-least : (d : DomainValue) (w : Way) (x : ℕ) → d.times.delay_min ≤ took_drawn d w x
took-least d w x =
    let right = le-max_right w.took (d.times.delay_min + draw_of (d.times.delay_max - d.times.delay_min + 1) x) in
    omega (arith, right)

module _ (d : DomainValue) where
  -- the link that is drawn is one of those that begin at the node
  pub link-within : (w : Way) (x : ℕ) → has_links_out d.links w.node ≡ true → link_drawn d w x < length d.links
  link-within w x out =
      from-within d.links w.node (draw_of (length (links_from d.links w.node)) x)
      (draw-below (length (links_from d.links w.node)) x (out-some d.links w.node out))

  pub link-begins : (w : Way) (x : ℕ) → has_links_out d.links w.node ≡ true → start_of d.links (link_drawn d w x) ≡ w.node
  link-begins w x out =
      from-begins d.links w.node (draw_of (length (links_from d.links w.node)) x)
      (draw-below (length (links_from d.links w.node)) x (out-some d.links w.node out))

  -- the packet travels on
  pub goes-travels : (w : Way) (x : ℕ) (es : List Event) (y : ℕ) → Proceeds d w x es y → Travels d.links w.node es
  goes-travels w x [] y g = tt
  goes-travels w x (Send p f v time reading delay ∷ es) y g = absurd g
  goes-travels w x (Hop p link time reading ∷ es) y g =
      let over : link ≡ link_drawn d w (drawn x) = g.1.over in (
        subst (λ l. l < length d.links) (sym over) (link-within w (drawn x) g.0),
        ap (start_of d.links) over ∙ link-begins w (drawn x) g.0,
        goes-travels (way_over d w link (took_drawn d w (drawn (drawn x)))) (drawn (drawn (drawn x))) es y g.2,
      )
  goes-travels w x (Lost p ∷ es) y g = g.3

  -- all events are of the packet
  pub goes-own : (w : Way) (x : ℕ) (es : List Event) (y : ℕ) → Proceeds d w x es y → All (λ e. event_packet e ≡ w.packet) es
  goes-own w x [] y g = All-nil (λ e. event_packet e ≡ w.packet)
  goes-own w x (Send p f v time reading delay ∷ es) y g = absurd g
  goes-own w x (Hop p link time reading ∷ es) y g =
      All-cons (λ e. event_packet e ≡ w.packet) (Hop p link time reading) es g.1.number
      (goes-own (way_over d w link (took_drawn d w (drawn (drawn x)))) (drawn (drawn (drawn x))) es y g.2)
  goes-own w x (Lost p ∷ es) y g =
      subst (λ rest. All (λ e. event_packet e ≡ w.packet) (Lost p ∷ rest)) (sym g.3)
      (All-cons (λ e. event_packet e ≡ w.packet) (Lost p) [] g.1 (All-nil (λ e. event_packet e ≡ w.packet)))

  -- all clocks are right to half the skew
  pub goes-on-time : (w : Way) (x : ℕ) (es : List Event) (y : ℕ) → Proceeds d w x es y → All (IsOnTime d.times) es
  goes-on-time w x [] y g = All-nil (IsOnTime d.times)
  goes-on-time w x (Send p f v time reading delay ∷ es) y g = absurd g
  goes-on-time w x (Hop p link time reading ∷ es) y g =
      All-cons (IsOnTime d.times) (Hop p link time reading) es
      (subst (λ r. IsNear d.times time r) (sym g.1.shown) (near-read d.times (end_of d.links link) time))
      (goes-on-time (way_over d w link (took_drawn d w (drawn (drawn x)))) (drawn (drawn (drawn x))) es y g.2)
  goes-on-time w x (Lost p ∷ es) y g =
      subst (λ rest. All (IsOnTime d.times) (Lost p ∷ rest)) (sym g.3)
      (All-cons (IsOnTime d.times) (Lost p) [] tt (All-nil (IsOnTime d.times)))

  -- all hops are in time after the packet was sent
  pub goes-in-time : (w : Way) (p f v reading : ℕ) (delay : Bool) (x : ℕ) (es : List Event) (y : ℕ)
      → d.times.delay_min ≤ d.times.delay_max → w.took ≤ d.times.delay_max → Proceeds d w x es y
      → All (IsInTime d.times (Send p f v w.sent reading delay)) es
  goes-in-time w p f v reading delay x [] y ordered took g = All-nil (IsInTime d.times (Send p f v w.sent reading delay))
  goes-in-time w p f v reading delay x (Send q f' v' time read bit ∷ es) y ordered took g = absurd g
  goes-in-time w p f v reading delay x (Hop q link time read ∷ es) y ordered took g =
      let next = took_drawn d w (drawn (drawn x)) in
      let least = took-least d w (drawn (drawn x)) in
      let most = took-most d w (drawn (drawn x)) ordered took in
      let at : time ≡ w.sent + next = g.1.at_time in
      All-cons (IsInTime d.times (Send p f v w.sent reading delay)) (Hop q link time read) es
      (λ _. (omega (arith, least, at), omega (arith, most, at)))
      (goes-in-time (way_over d w link next) p f v reading delay (drawn (drawn (drawn x))) es y ordered most g.2)
  goes-in-time w p f v reading delay x (Lost q ∷ es) y ordered took g =
      subst (λ rest. All (IsInTime d.times (Send p f v w.sent reading delay)) (Lost q ∷ rest)) (sym g.3)
      (All-cons (IsInTime d.times (Send p f v w.sent reading delay)) (Lost q) [] tt
      (All-nil (IsInTime d.times (Send p f v w.sent reading delay))))

  -- nothing is said of other events
  pub goes-untimed : (w : Way) (x : ℕ) (es : List Event) (y : ℕ) → Proceeds d w x es y
      → (other : List Event) → All (λ s. All (IsInTime d.times s) other) es
  goes-untimed w x [] y g other = All-nil (λ s. All (IsInTime d.times s) other)
  goes-untimed w x (Send p f v time reading delay ∷ es) y g other = absurd g
  goes-untimed w x (Hop p link time reading ∷ es) y g other =
      All-cons (λ s. All (IsInTime d.times s) other) (Hop p link time reading) es (λ i e below. tt)
      (goes-untimed (way_over d w link (took_drawn d w (drawn (drawn x)))) (drawn (drawn (drawn x))) es y g.2 other)
  goes-untimed w x (Lost p ∷ es) y g other =
      subst (λ rest. All (λ s. All (IsInTime d.times s) other) (Lost p ∷ rest)) (sym g.3)
      (All-cons (λ s. All (IsInTime d.times s) other) (Lost p) [] (λ i e below. tt)
      (All-nil (λ s. All (IsInTime d.times s) other)))

  -- a packet that isn't lost ends where no link begins
  pub goes-over : (w : Way) (x : ℕ) (es : List Event) (y : ℕ) → Proceeds d w x es y → (node : ℕ)
      → list_any is_lost es ≡ false → node_after d.links (Some w.node) es ≡ Some node → has_links_out d.links node ≡ false
  goes-over w x [] y g node kept at =
      let here : w.node ≡ node = cc at in
      subst (λ v. has_links_out d.links v ≡ false) here g.0
  goes-over w x (Send p f v time reading delay ∷ es) y g node kept at = absurd g
  goes-over w x (Hop p link time reading ∷ es) y g node kept at =
      goes-over (way_over d w link (took_drawn d w (drawn (drawn x)))) (drawn (drawn (drawn x))) es y g.2 node kept at
  goes-over w x (Lost p ∷ es) y g node kept at = absurd (false≢true (sym kept))

  -- it makes no more hops than it may, and then is lost
  pub goes-short : (w : Way) (x : ℕ) (es : List Event) (y : ℕ) → Proceeds d w x es y → w.hops ≤ 16 → length es + w.hops ≤ 17
  goes-short w x [] y g few = omega (arith, few)
  goes-short w x (Send p f v time reading delay ∷ es) y g few = absurd g
  goes-short w x (Hop p link time reading ∷ es) y g few =
      let less : w.hops < 16 = g.1.few in
      let rest = goes-short (way_over d w link (took_drawn d w (drawn (drawn x)))) (drawn (drawn (drawn x))) es y g.2
      (omega (arith, less)) in
      omega (arith, rest)
  goes-short w x (Lost p ∷ es) y g few =
      let none = ap length g.3 in
      omega (arith, none, few)

  -- it isn't sent again
  pub goes-unsent : (w : Way) (x : ℕ) (es : List Event) (y : ℕ) → Proceeds d w x es y
      → (flow node block : ℕ) → All (IsBefore d.times flow node block) es
  goes-unsent w x [] y g flow node block = All-nil (IsBefore d.times flow node block)
  goes-unsent w x (Send p f v time reading delay ∷ es) y g flow node block = absurd g
  goes-unsent w x (Hop p link time reading ∷ es) y g flow node block =
      All-cons (IsBefore d.times flow node block) (Hop p link time reading) es tt
      (goes-unsent (way_over d w link (took_drawn d w (drawn (drawn x)))) (drawn (drawn (drawn x))) es y g.2 flow node block)
  goes-unsent w x (Lost p ∷ es) y g flow node block =
      subst (λ rest. All (IsBefore d.times flow node block) (Lost p ∷ rest)) (sym g.3)
      (All-cons (IsBefore d.times flow node block) (Lost p) [] tt (All-nil (IsBefore d.times flow node block)))

  -- what the events of a packet of this number are
  pub record IsWhole (i : ℕ) (es : List Event) : Type 0 where
    pub own : All (λ e. event_packet e ≡ i) es
    pub journey : IsJourney d es
    pub over : IsOver d.links es
    pub clocks : All (IsOnTime d.times) es
    pub delays : All (λ s. All (IsInTime d.times s) es) es
    pub short : length es ≤ 18

  pub packet-whole : (packets i : ℕ) (earlier : List Event) (x : ℕ) (es : List Event) (y : ℕ)
      → IsLawful d → 0 < length (entries d) → IsPacket d packets i earlier x es y → IsWhole i es
  packet-whole packets i earlier x [] y lawful some g = absurd g
  packet-whole packets i earlier x (Send p f v time reading delay ∷ es) y lawful some g =
      let w = way_from p v time in
      let sent = g.0 in
      let from = drawn (drawn x) in
      let ordered = lawful.timing.in_order in
      let chosen = draw-below (length (entries d)) (drawn x) some in
      let flow_below : draw_of (length d.flows) x < length d.flows = draw-below (length d.flows) x lawful.some_flow in
      record {
        own = All-cons (λ e. event_packet e ≡ i) (Send p f v time reading delay) es sent.number
            (subst (λ n. All (λ e. event_packet e ≡ n) es) sent.number (goes-own w from es y g.1));
        journey = (
          subst (λ n. n < length d.flows) (sym sent.of_flow) flow_below,
          subst (λ n. n < length d.nodes) (sym sent.at_node) (entry-within d (draw_of (length (entries d)) (drawn x)) chosen),
          ap (has_links_in d.links) sent.at_node ∙ entry-enters d (draw_of (length (entries d)) (drawn x)) chosen,
          goes-travels w from es y g.1,
        );
        over = λ node kept at. goes-over w from es y g.1 node kept at;
        clocks = All-cons (IsOnTime d.times) (Send p f v time reading delay) es
            (subst (λ r. IsNear d.times time r) (sym sent.shown) (near-read d.times v time))
            (goes-on-time w from es y g.1);
        delays = All-cons (λ s. All (IsInTime d.times s) (Send p f v time reading delay ∷ es)) (Send p f v time reading delay) es
            (All-cons (IsInTime d.times (Send p f v time reading delay)) (Send p f v time reading delay) es tt
            (goes-in-time w p f v reading delay from es y ordered (omega arith) g.1))
            (goes-untimed w from es y g.1 (Send p f v time reading delay ∷ es));
        short = let rest = goes-short w from es y g.1 (omega arith) in omega (arith, rest);
      }
  packet-whole packets i earlier x (Hop p link time reading ∷ es) y lawful some g = absurd g
  packet-whole packets i earlier x (Lost p ∷ es) y lawful some g = absurd g
