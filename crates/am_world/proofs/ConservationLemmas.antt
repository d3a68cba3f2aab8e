-- Packets of a cluster are conserved: what passed its starts hopped over its links, was dropped there, or waits there.
use Rattle.std.proofs.Common.{◌≡◌, ◌∙◌, ℕ, ◌+◌, Bool, true, false, cond, eqb, ◌&&◌, ◌||◌, List, [], ◌∷◌, Some, refl, sym, ap, arith}
use Rattle.std.specs.Prelude.{sum_by, not}
use Rattle.std.specs.List.{list_any, range_with_len}
use Rattle.std.proofs.lemmas.Bool.{eqb-true}
use Rattle.std.proofs.lemmas.List.Sums.{sum_by-cons}
use Rattle.am_domain.specs.declared.link.Edge.{Edge}
use Rattle.am_domain.specs.Network.{has_links_in}
use Rattle.am_domain.specs.Domains.{DomainValue}
use Rattle.am_graph.specs.Graphs.{end_of}
use Rattle.am_world.specs.declared.event.Event.{Event}
use Rattle.am_world.specs.declared.event.Event.TheVariants.{Send, Hop, Lost}
use Rattle.am_world.specs.Events.{event_packet, events_of, is_lost, node_after}
use Rattle.am_world.specs.Worlds.{Travels, IsJourney, AreJourneys}
use Rattle.am_world.specs.Passes.{passes, passed_at}
use Rattle.am_world.specs.Drops.{is_at, is_dropped, is_waiting, dropped_at, waiting_at, hops_over, hopped_over}
use Rattle.am_world.proofs.SumLemmas.{weigh, sum-both, sum-same, sum-none, sum-keys, sum-passing, item-le-sum, from-filter}
use Rattle.am_world.proofs.JourneyLemmas.{IsOfSends, AreSides, travels-unsent, hop_sum, starts-on, ends-on, hops-are}

-- a number above the packets of all events
pub packet_end : List Event → ℕ
packet_end events = 1 + sum_by event_packet events

-- a sum over the events, packet by packet; the events of each packet are handed to it
pub packet-by-packet : (F : List Event → Event → ℕ) (events : List Event)
    → sum_by (λ e. F (events_of events (event_packet e)) e) events
    ≡ sum_by (λ p. sum_by (F (events_of events p)) (events_of events p)) (range_with_len 0 (packet_end events))
unfolding packet_end
packet-by-packet F events =
    let f = λ (e : Event). F (events_of events (event_packet e)) e in
    let apart = sum-keys event_packet f events (packet_end events) (λ e h. omega (arith, item-le-sum event_packet events e h)) in
    let each = sum-same (λ p. sum_by (λ e. cond (eqb (event_packet e) p) (f e) 0) events)
    (λ p. sum_by (F (events_of events p)) (events_of events p)) (range_with_len 0 (packet_end events)) (λ p _. one p) in
    apart ∙ each
  where
    one : (p : ℕ) → sum_by (λ e. cond (eqb (event_packet e) p) (F (events_of events (event_packet e)) e) 0) events
        ≡ sum_by (F (events_of events p)) (events_of events p)
    one p =
        let passing = sum-passing (λ e. F (events_of events (event_packet e)) e) (λ e. eqb (event_packet e) p) events in
        let same = sum-same (λ e. F (events_of events (event_packet e)) e) (F (events_of events p)) (events_of events p)
        (λ e h. ap (λ q. F (events_of events q) e)
        (eqb-true (event_packet e) p (from-filter (λ e. eqb (event_packet e) p) events e h).1)) in
        sym passing ∙ same

-- where a fact is the same for all items, the sum of the weights of those that pass a test with it is the sum of all that
-- pass, or nothing
pub weigh-and : {X : Type 0} (weight : X → ℕ) (test : X → Bool) (fact : Bool) (xs : List X)
    → sum_by (λ x. cond (test x && fact) (weight x) 0) xs ≡ cond fact (weigh weight test xs) 0
weigh-and weight test true xs =
    sum-same (λ x. cond (test x && true) (weight x) 0) (λ x. cond (test x) (weight x) 0) xs (λ x _. one (test x) (weight x))
  where
    one : (b : Bool) (n : ℕ) → cond (b && true) n 0 ≡ cond b n 0
    one true n = refl
    one false n = refl
weigh-and weight test false xs =
    sum-same (λ x. cond (test x && false) (weight x) 0) (λ _. 0) xs (λ x _. one (test x) (weight x)) ∙ sum-none xs
  where
    one : (b : Bool) (n : ℕ) → cond (b && false) n 0 ≡ 0
    one true n = refl
    one false n = refl

-- of a packet that travels on, no event is sent so
weigh-unsent : (so : Event → Bool) → IsOfSends so → (fact : Bool) (links : List Edge) (node : ℕ) (es : List Event)
    → Travels links node es → sum_by (λ e. cond (so e && fact) 1 0) es ≡ 0
weigh-unsent so alone fact links node [] t = refl
weigh-unsent so alone fact links node (Send p f v time reading delay ∷ es) t = absurd t
weigh-unsent so alone fact links node (Hop p link time reading ∷ es) t =
    sum_by-cons (λ e. cond (so e && fact) 1 0) (Hop p link time reading) es
    ∙ rw (alone.hops p link time reading) (omega (arith, weigh-unsent so alone fact links (end_of links link) es t.2))
weigh-unsent so alone fact links node (Lost p ∷ es) t =
    let none : sum_by (λ e. cond (so e && fact) 1 0) es ≡ 0 = ap (sum_by (λ e. cond (so e && fact) 1 0)) t in
    sum_by-cons (λ e. cond (so e && fact) 1 0) (Lost p) es ∙ rw (alone.losses p) (omega (arith, none))

-- a packet at a start is lost there or waits there
parted : (sent lost at : Bool) (hops : ℕ)
    → cond sent (hops + cond at 1 0) 0
    ≡ cond sent hops 0 + (cond (sent && (lost && at)) 1 0 + cond (sent && (not lost && at)) 1 0)
parted false lost at hops = refl
parted true false false hops = omega arith
parted true false true hops = omega arith
parted true true false hops = omega arith
parted true true true hops = omega arith

-- a test or none
pub or-none : (x y : Bool) → y ≡ false → (x || y) ≡ x
or-none false y h = h
or-none true y h = refl

module _ (d : DomainValue) (inside starts ends : ℕ → Bool) (sides : AreSides d.links inside starts ends)
    (entries : (node : ℕ) → has_links_in d.links node ≡ false → ends node ≡ false)
    (so : Event → Bool) (alone : IsOfSends so) where
  -- of one packet, what passed the starts hopped, was dropped or waits
  journey-starts : (es : List Event) → IsJourney d es
      → sum_by (λ e. cond (passes d.links starts e && list_any so es) 1 0) es
      ≡ sum_by (λ e. cond (hops_over inside e && list_any so es) 1 0) es
      + (sum_by (λ e. cond (so e && is_dropped d.links starts es) 1 0) es
      + sum_by (λ e. cond (so e && is_waiting d.links starts es) 1 0) es)
  journey-starts [] j = refl
  journey-starts (Hop p link time reading ∷ es) j = absurd j
  journey-starts (Lost p ∷ es) j = absurd j
  journey-starts (Send p f v time reading delay ∷ es) j =
      let s = Send p f v time reading delay in
      let sent : list_any so (s ∷ es) ≡ so s
      = or-none (so s) (list_any so es) (travels-unsent so alone d.links v es j.3) in
      let at = is_at starts (node_after d.links (Some v) es) in
      let lost = list_any is_lost es in
      let passed = weigh-and (λ _. 1) (passes d.links starts) (list_any so (s ∷ es)) (s ∷ es) in
      let passed_more = sum_by-cons (λ e. cond (passes d.links starts e) 1 0) s es in
      let on = starts-on d.links inside starts ends sides (λ _. 1) v s es j.3 in
      let hopped = weigh-and (λ _. 1) (hops_over inside) (list_any so (s ∷ es)) (s ∷ es) in
      let hopped_more = sum_by-cons (λ e. cond (hops_over inside e) 1 0) s es in
      let hops = hops-are inside 1 d.links v s es j.3 in
      let dropped = sum_by-cons (λ e. cond (so e && is_dropped d.links starts (s ∷ es)) 1 0) s es in
      let dropped_rest = weigh-unsent so alone (is_dropped d.links starts (s ∷ es)) d.links v es j.3 in
      let waiting = sum_by-cons (λ e. cond (so e && is_waiting d.links starts (s ∷ es)) 1 0) s es in
      let waiting_rest = weigh-unsent so alone (is_waiting d.links starts (s ∷ es)) d.links v es j.3 in
      let both = parted (so s) lost at (hop_sum inside (λ _ _. 1) s es) in
      let p : weigh (λ _. 1) (passes d.links starts) (s ∷ es) ≡ hop_sum inside (λ _ _. 1) s es + cond at 1 0
      = omega (arith, passed_more, on) in
      let h : weigh (λ _. 1) (hops_over inside) (s ∷ es) ≡ hop_sum inside (λ _ _. 1) s es
      = omega (arith, hopped_more, hops) in
      let all_passed : sum_by (λ e. cond (passes d.links starts e && list_any so (s ∷ es)) 1 0) (s ∷ es)
      ≡ cond (so s) (hop_sum inside (λ _ _. 1) s es + cond at 1 0) 0 = passed ∙ rw (sent, p) refl in
      let all_hopped : sum_by (λ e. cond (hops_over inside e && list_any so (s ∷ es)) 1 0) (s ∷ es)
      ≡ cond (so s) (hop_sum inside (λ _ _. 1) s es) 0 = hopped ∙ rw (sent, h) refl in
      omega (arith, all_passed, all_hopped, dropped, dropped_rest, waiting, waiting_rest, both)

  -- and what passed the ends hopped
  journey-ends : (es : List Event) → IsJourney d es
      → sum_by (λ e. cond (passes d.links ends e && list_any so es) 1 0) es
      ≡ sum_by (λ e. cond (hops_over inside e && list_any so es) 1 0) es
  journey-ends [] j = refl
  journey-ends (Hop p link time reading ∷ es) j = absurd j
  journey-ends (Lost p ∷ es) j = absurd j
  journey-ends (Send p f v time reading delay ∷ es) j =
      let s = Send p f v time reading delay in
      let passed = weigh-and (λ _. 1) (passes d.links ends) (list_any so (s ∷ es)) (s ∷ es) in
      let passed_more = sum_by-cons (λ e. cond (passes d.links ends e) 1 0) s es in
      let on = ends-on d.links inside starts ends sides (λ _. 1) v s es j.3 in
      let hopped = weigh-and (λ _. 1) (hops_over inside) (list_any so (s ∷ es)) (s ∷ es) in
      let hopped_more = sum_by-cons (λ e. cond (hops_over inside e) 1 0) s es in
      let hops = hops-are inside 1 d.links v s es j.3 in
      let entry : ends v ≡ false = entries v j.2 in
      let first : weigh (λ _. 1) (passes d.links ends) (s ∷ es) ≡ weigh (λ _. 1) (passes d.links ends) es
      = passed_more ∙ rw entry (omega arith) in
      let same : weigh (λ _. 1) (passes d.links ends) (s ∷ es) ≡ weigh (λ _. 1) (hops_over inside) (s ∷ es)
      = omega (arith, first, on, hopped_more, hops) in
      passed ∙ rw same (sym hopped)

  -- what passed the starts, over all events
  pub starts-conserved : (events : List Event) → AreJourneys d events
      → passed_at d.links starts so events
      ≡ hopped_over inside so events + (dropped_at d.links starts so events + waiting_at d.links starts so events)
  starts-conserved events journeys =
      let packets = range_with_len 0 (packet_end events) in
      let passed = packet-by-packet (λ es e. cond (passes d.links starts e && list_any so es) 1 0) events in
      let hopped = packet-by-packet (λ es e. cond (hops_over inside e && list_any so es) 1 0) events in
      let dropped = packet-by-packet (λ es e. cond (so e && is_dropped d.links starts es) 1 0) events in
      let waiting = packet-by-packet (λ es e. cond (so e && is_waiting d.links starts es) 1 0) events in
      let hops = λ (p : ℕ). sum_by (λ e. cond (hops_over inside e && list_any so (events_of events p)) 1 0) (events_of events p) in
      let drops = λ (p : ℕ).
      sum_by (λ e. cond (so e && is_dropped d.links starts (events_of events p)) 1 0) (events_of events p) in
      let waits = λ (p : ℕ).
      sum_by (λ e. cond (so e && is_waiting d.links starts (events_of events p)) 1 0) (events_of events p) in
      let each = sum-same
      (λ p. sum_by (λ e. cond (passes d.links starts e && list_any so (events_of events p)) 1 0) (events_of events p))
      (λ p. hops p + (drops p + waits p)) packets (λ p _. journey-starts (events_of events p) (journeys p)) in
      let first = sum-both hops (λ p. drops p + waits p) packets in
      let second = sum-both drops waits packets in
      omega (arith, passed, hopped, dropped, waiting, each, first, second)

  -- and the ends
  pub ends-conserved : (events : List Event) → AreJourneys d events
      → passed_at d.links ends so events ≡ hopped_over inside so events
  ends-conserved events journeys =
      let packets = range_with_len 0 (packet_end events) in
      let passed = packet-by-packet (λ es e. cond (passes d.links ends e && list_any so es) 1 0) events in
      let hopped = packet-by-packet (λ es e. cond (hops_over inside e && list_any so es) 1 0) events in
      let each = sum-same
      (λ p. sum_by (λ e. cond (passes d.links ends e && list_any so (events_of events p)) 1 0) (events_of events p))
      (λ p. sum_by (λ e. cond (hops_over inside e && list_any so (events_of events p)) 1 0) (events_of events p))
      packets (λ p _. journey-ends (events_of events p) (journeys p)) in
      passed ∙ each ∙ sym hopped
