-- What the capture of a node counts of a block that it covers: the packets that were sent in it and passed the node.
use Rattle.std.proofs.Common.{◌≡◌, ◌≢◌, ◌∙◌, ℕ, ◌+◌, ◌%◌, ◌<◌, Bool, true, false, cond, eqb, ◌&&◌, List, [], ◌∷◌, length, refl, sym, ap, subst, arith, inl, inr}
use Rattle.std.specs.Prelude.{All, Contains, IsTrue, ◌↔◌, ◌⊎◌, sum_by, count_by, slice_index_or}
use Rattle.std.specs.List.{list_any}
use Rattle.std.proofs.lemmas.Bool.{false≢true, eqb-true, eq-eqb, cases_Bool, and_parts, and_from, and_right}
use Rattle.std.proofs.lemmas.Bool.Decides.{nat_tests}
use Rattle.std.proofs.lemmas.List.Elements.{All-contains}
use Rattle.am_clock.specs.Times.{Times, parity, in_window, belongs_to}
use Rattle.am_domain.specs.Values.{FlowValue}
use Rattle.am_domain.specs.Domains.{DomainValue, IsLawful, Reports}
use Rattle.am_meter.specs.declared.stream.Marked.{Marked}
use Rattle.am_meter.specs.Metering.{counts_in, delays_in, node_shift}
use Rattle.am_world.specs.declared.event.Event.{Event}
use Rattle.am_world.specs.declared.event.Event.TheVariants.{Send, Hop, Lost}
use Rattle.am_world.specs.Events.{event_packet, event_reading, events_of}
use Rattle.am_world.specs.Worlds.{IsJourney, AreJourneys}
use Rattle.am_world.specs.Passes.{passes, block_at, sends, sends_delayed, sends_marked, is_bit, passes_sent, is_marked_so, passes_so, IsInSpan, Records}
use Rattle.am_world.specs.Laws.{IsAttributed, AreAttributed}
use Rattle.am_world.specs.LinkLosses.{CoversAt}
use Rattle.am_world.proofs.SumLemmas.{sum-both, sum-same, sum-none, same-by-keys, from-filter}
use Rattle.am_world.proofs.JourneyLemmas.{IsOfSends, travels-unsent}
use Rattle.am_world.proofs.ConservationLemmas.{or-none}
use Rattle.am_world.proofs.ClusterLemmas.{same-tests}

-- a packet of the flow is sent in the block, with the delay bit or without
abbrev pub sends_bit : Times → ℕ → ℕ → Bool → Event → Bool
sends_bit t flow block delayed (Send packet of_flow node time reading delay) =
    (eqb of_flow flow && eqb (block_at t reading) block) && is_bit delay delayed
sends_bit t flow block delayed (Hop packet link time reading) = false
sends_bit t flow block delayed (Lost packet) = false

pub bit-only : (t : Times) (flow block : ℕ) (delayed : Bool) → IsOfSends (sends_bit t flow block delayed)
bit-only t flow block delayed = record { hops = λ p link time reading. refl; losses = λ p. refl }

marked-only : (t : Times) (flow : ℕ) (colour delayed : Bool) → IsOfSends (sends_marked t flow colour delayed)
marked-only t flow colour delayed = record { hops = λ p link time reading. refl; losses = λ p. refl }

-- the colour of a block
abbrev pub colour_of_block : ℕ → Bool
colour_of_block block = eqb (block % 2) 1

colour-parity : (block : ℕ) → parity (colour_of_block block) ≡ block % 2
colour-parity block = elim (cases_Bool (eqb (block % 2) 1)) [
  | inl odd ↦ rw odd (omega (arith, eqb-true (block % 2) 1 odd))
  | inr even ↦ rw even (omega (arith, apart even))
]
  where
    apart : eqb (block % 2) 1 ≡ false → block % 2 ≢ 1
    apart even same = false≢true (sym even ∙ eq-eqb (block % 2) 1 same)

-- a marked record counts in a block, with the delay bit or without
abbrev pub counts_bit : Times → ℕ → ℕ → ℕ → Bool → Marked → Bool
counts_bit t id shift block delayed m = counts_in t id shift block m && is_bit m.mark.delay delayed

module _ (d : DomainValue) (events : List Event) (journeys : AreJourneys d events)
    (attributed : AreAttributed d events) (node : ℕ) (ms : List Marked)
    (records : Records d events node ms) (flow block : ℕ) (f : FlowValue) (flow_within : flow < length d.flows)
    (covered : CoversAt d node block) (delayed : Bool) where
  -- the flow's number in marks, the node's shift and the block's colour
  abbrev pub id : ℕ
  id = (slice_index_or d.flows flow f).id

  abbrev pub shift : ℕ
  shift = node_shift d node

  abbrev pub colour : Bool
  colour = colour_of_block block

  -- at a reading, a marked record counts in the block exactly where the window holds the reading and the mark has the
  -- block's colour
  counts-so : (v : ℕ) (m : Marked)
      → (eqb m.reading v && counts_bit d.times id shift block delayed m)
      ≡ (in_window d.times v shift block && is_marked_so v id colour delayed m)
  counts-so v m = same-tests (eqb m.reading v && counts_bit d.times id shift block delayed m)
      (in_window d.times v shift block && is_marked_so v id colour delayed m) to from
    where
      to : (eqb m.reading v && counts_bit d.times id shift block delayed m) ≡ true
          → (in_window d.times v shift block && is_marked_so v id colour delayed m) ≡ true
      to h = grind (arith, nat_tests, colour-parity block)

      from : (in_window d.times v shift block && is_marked_so v id colour delayed m) ≡ true
          → (eqb m.reading v && counts_bit d.times id shift block delayed m) ≡ true
      from h = grind (arith, nat_tests, colour-parity block)

  -- the events of a packet that passes at a reading: it is sent in the block exactly where the window holds the reading,
  -- and it is sent with the block's colour
  sent-so : (v : ℕ) (e : Event) → event_reading e ≡ v → passes d.links (λ n. eqb n node) e ≡ true
      → (es : List Event) → IsJourney d es
      → ((s : Event) → Contains es s → IsAttributed d s e × (event_packet s ≡ event_packet e))
      → list_any (sends_bit d.times flow block delayed) es
      ≡ (in_window d.times v shift block && list_any (sends_marked d.times flow colour delayed) es)
  sent-so v e read pass [] j each = sym (and_right (in_window d.times v shift block) false refl)
  sent-so v e read pass (Hop p link time reading ∷ es) j each = absurd j
  sent-so v e read pass (Lost p ∷ es) j each = absurd j
  sent-so v e read pass (Send p g w time sent bit ∷ es) j each =
      let s = Send p g w time sent bit in
      let left = or-none (sends_bit d.times flow block delayed s) (list_any (sends_bit d.times flow block delayed) es)
      (travels-unsent (sends_bit d.times flow block delayed) (bit-only d.times flow block delayed) d.links w es j.3) in
      let right = or-none (sends_marked d.times flow colour delayed s) (list_any (sends_marked d.times flow colour delayed) es)
      (travels-unsent (sends_marked d.times flow colour delayed) (marked-only d.times flow colour delayed) d.links w es j.3) in
      let own = each s (0, omega arith, refl) in
      left ∙ one p g w time sent bit (own.0 own.1) ∙ ap (λ x. in_window d.times v shift block && x) (sym right)
    where
      one : (p g w time sent : ℕ) (bit : Bool)
          → ((at here : ℕ) (col : Bool) → passes d.links (λ n. eqb n at) e ≡ true → parity col ≡ block_at d.times sent % 2
          → IsTrue (belongs_to d.times (event_reading e) col (node_shift d at) here) ↔ (here ≡ block_at d.times sent))
          → sends_bit d.times flow block delayed (Send p g w time sent bit)
          ≡ (in_window d.times v shift block && sends_marked d.times flow colour delayed (Send p g w time sent bit))
      one p g w time sent bit own = same-tests (sends_bit d.times flow block delayed (Send p g w time sent bit))
          (in_window d.times v shift block && sends_marked d.times flow colour delayed (Send p g w time sent bit)) to from
        where
          to : sends_bit d.times flow block delayed (Send p g w time sent bit) ≡ true
              → (in_window d.times v shift block && sends_marked d.times flow colour delayed (Send p g w time sent bit)) ≡ true
          to h =
              let outer = and_parts (eqb g flow && eqb (block_at d.times sent) block) (is_bit bit delayed) h in
              let inner = and_parts (eqb g flow) (eqb (block_at d.times sent) block) outer.0 in
              let same : block_at d.times sent ≡ block = eqb-true (block_at d.times sent) block inner.1 in
              let even : parity colour ≡ block_at d.times sent % 2
              = colour-parity block ∙ ap (λ n. n % 2) (sym same) in
              let belongs : IsTrue (belongs_to d.times v colour shift block)
              = subst (λ r. IsTrue (belongs_to d.times r colour shift block)) read ((own node block colour pass even).1 (sym same)) in
              let windowed = and_parts (eqb (block % 2) (parity colour)) (in_window d.times v shift block) belongs in
              and_from (in_window d.times v shift block) (sends_marked d.times flow colour delayed (Send p g w time sent bit))
              windowed.1
              (and_from (eqb g flow && eqb (block_at d.times sent % 2) (parity colour)) (is_bit bit delayed)
              (and_from (eqb g flow) (eqb (block_at d.times sent % 2) (parity colour)) inner.0
              (eq-eqb (block_at d.times sent % 2) (parity colour) (sym even)))
              outer.1)

          from : (in_window d.times v shift block && sends_marked d.times flow colour delayed (Send p g w time sent bit)) ≡ true
              → sends_bit d.times flow block delayed (Send p g w time sent bit) ≡ true
          from h =
              let windowed = and_parts (in_window d.times v shift block)
              (sends_marked d.times flow colour delayed (Send p g w time sent bit)) h in
              let outer = and_parts (eqb g flow && eqb (block_at d.times sent % 2) (parity colour)) (is_bit bit delayed) windowed.1 in
              let inner = and_parts (eqb g flow) (eqb (block_at d.times sent % 2) (parity colour)) outer.0 in
              let even : block_at d.times sent % 2 ≡ parity colour
              = eqb-true (block_at d.times sent % 2) (parity colour) inner.1 in
              let belongs : IsTrue (belongs_to d.times v colour shift block)
              = and_from (eqb (block % 2) (parity colour)) (in_window d.times v shift block)
              (eq-eqb (block % 2) (parity colour) (sym (colour-parity block))) windowed.0 in
              let same : block ≡ block_at d.times sent
              = (own node block colour pass (sym even)).0
              (subst (λ r. IsTrue (belongs_to d.times r colour shift block)) (sym read) belongs) in
              and_from (eqb g flow && eqb (block_at d.times sent) block) (is_bit bit delayed)
              (and_from (eqb g flow) (eqb (block_at d.times sent) block) inner.0
              (eq-eqb (block_at d.times sent) block (sym same)))
              outer.1

  -- so of a pass
  passes-so : (v : ℕ) (e : Event) → Contains events e
      → (eqb (event_reading e) v && passes_sent d.links (λ n. eqb n node) (sends_bit d.times flow block delayed) events e)
      ≡ (in_window d.times v shift block && passes_so d events node v flow colour delayed e)
  passes-so v e there =
      elim (cases_Bool (eqb (event_reading e) v)) [
        | inr other ↦ rw other (sym (and_right (in_window d.times v shift block) false refl))
        | inl here ↦ elim (cases_Bool (passes d.links (λ n. eqb n node) e)) [
          | inr past ↦ rw (here, past) (sym (and_right (in_window d.times v shift block) false refl))
          | inl pass ↦
              let same = sent-so v e (eqb-true (event_reading e) v here) pass (events_of events (event_packet e))
              (journeys (event_packet e))
              (λ s s-there.
              let of = from-filter (λ x. eqb (event_packet x) (event_packet e)) events s s-there in (
                All-contains (IsAttributed d s) events e
                    (All-contains (λ x. All (IsAttributed d x) events) events s attributed of.0) there,
                eqb-true (event_packet s) (event_packet e) of.1,
              )) in
              rw (here, pass) same
        ]
      ]

  -- where the captures' records are counted at a reading: as many as packets of the block passed then
  at-reading : (v : ℕ)
      → count_by (λ m. eqb m.reading v && counts_bit d.times id shift block delayed m) ms
      ≡ count_by (λ e. eqb (event_reading e) v
      && passes_sent d.links (λ n. eqb n node) (sends_bit d.times flow block delayed) events e) events
  at-reading v =
      let left = sum-same (λ m. cond (eqb m.reading v && counts_bit d.times id shift block delayed m) 1 0)
      (λ m. cond (in_window d.times v shift block && is_marked_so v id colour delayed m) 1 0) ms
      (λ m _. ap (λ b. cond b 1 0) (counts-so v m)) in
      let right = sum-same (λ e. cond (eqb (event_reading e) v
      && passes_sent d.links (λ n. eqb n node) (sends_bit d.times flow block delayed) events e) 1 0)
      (λ e. cond (in_window d.times v shift block && passes_so d events node v flow colour delayed e) 1 0) events
      (λ e there. ap (λ b. cond b 1 0) (passes-so v e there)) in
      left ∙ middle (cases_Bool (in_window d.times v shift block)) ∙ sym right
    where
      middle : (in_window d.times v shift block ≡ true) ⊎ (in_window d.times v shift block ≡ false)
          → sum_by (λ m. cond (in_window d.times v shift block && is_marked_so v id colour delayed m) 1 0) ms
          ≡ sum_by (λ e. cond (in_window d.times v shift block && passes_so d events node v flow colour delayed e) 1 0) events
      middle (inl inside) =
          let span : IsInSpan d node v = record {
            from = λ n. (covered n v inside).0;
            until = λ n. (covered n v inside).1;
          } in
          rw inside (records v flow colour delayed f span flow_within)
      middle (inr outside) =
          rw outside (sum-none ms ∙ sym (sum-none events))

  -- whatever readings weigh, what is counted weighs as much as what passed
  pub counted-bit : (weight : ℕ → ℕ)
      → sum_by (λ m. cond (counts_bit d.times id shift block delayed m) (weight m.reading) 0) ms
      ≡ sum_by (λ e. cond (passes_sent d.links (λ n. eqb n node) (sends_bit d.times flow block delayed) events e)
      (weight (event_reading e)) 0) events
  counted-bit weight =
      same-by-keys (λ m. m.reading) (counts_bit d.times id shift block delayed) ms event_reading
      (passes_sent d.links (λ n. eqb n node) (sends_bit d.times flow block delayed) events) events at-reading weight

-- a bit is set exactly where it is
is-set : (b : Bool) → is_bit b true ≡ b
is-set true = refl
is-set false = refl

-- tests that agree at each item find one together
any-agree : {X : Type 0} (f g : X → Bool) (xs : List X) → ((x : X) → f x ≡ g x) → list_any f xs ≡ list_any g xs
any-agree f g [] each = refl
any-agree f g (x ∷ xs) each = rw (each x, any-agree f g xs each) refl

-- a fact with a bit or without
split-bit : (a b : Bool) (n : ℕ) → cond a n 0 ≡ cond (a && is_bit b true) n 0 + cond (a && is_bit b false) n 0
split-bit false b n = refl
split-bit true true n = omega arith
split-bit true false n = omega arith

-- a packet that is sent in the block is sent with the delay bit or without
sent-split : (d : DomainValue) (flow block : ℕ) (pass : Bool) (n : ℕ) (es : List Event) → IsJourney d es
    → cond (pass && list_any (sends d.times flow block) es) n 0
    ≡ cond (pass && list_any (sends_bit d.times flow block true) es) n 0
    + cond (pass && list_any (sends_bit d.times flow block false) es) n 0
sent-split d flow block false n es j = refl
sent-split d flow block true n [] j = refl
sent-split d flow block true n (Hop p link time reading ∷ es) j = absurd j
sent-split d flow block true n (Lost p ∷ es) j = absurd j
sent-split d flow block true n (Send p g w time sent bit ∷ es) j =
    let s = Send p g w time sent bit in
    let all = or-none (sends d.times flow block s) (list_any (sends d.times flow block) es)
    (travels-unsent (sends d.times flow block) (record { hops = λ p link time reading. refl; losses = λ p. refl }) d.links w es j.3) in
    let with' = or-none (sends_bit d.times flow block true s) (list_any (sends_bit d.times flow block true) es)
    (travels-unsent (sends_bit d.times flow block true) (bit-only d.times flow block true) d.links w es j.3) in
    let without = or-none (sends_bit d.times flow block false s) (list_any (sends_bit d.times flow block false) es)
    (travels-unsent (sends_bit d.times flow block false) (bit-only d.times flow block false) d.links w es j.3) in
    rw (all, with', without) (split-bit (eqb g flow && eqb (block_at d.times sent) block) bit n)

module _ (d : DomainValue) (events : List Event) (journeys : AreJourneys d events)
    (attributed : AreAttributed d events) (node : ℕ) (ms : List Marked)
    (records : Records d events node ms) (flow block : ℕ) (f : FlowValue) (flow_within : flow < length d.flows)
    (covered : CoversAt d node block) (weight : ℕ → ℕ) where
  -- what the records of a block weigh that the capture covers
  pub covered-all :
      sum_by (λ m. cond (counts_in d.times (slice_index_or d.flows flow f).id (node_shift d node) block m) (weight m.reading) 0) ms
      ≡ sum_by (λ e. cond (passes_sent d.links (λ n. eqb n node) (sends d.times flow block) events e)
      (weight (event_reading e)) 0) events
  covered-all =
      let id = (slice_index_or d.flows flow f).id in
      let shift = node_shift d node in
      let counts = λ (b : Bool) (m : Marked). cond (counts_bit d.times id shift block b m) (weight m.reading) 0 in
      let passing = λ (b : Bool) (e : Event).
      cond (passes_sent d.links (λ n. eqb n node) (sends_bit d.times flow block b) events e) (weight (event_reading e)) 0 in
      let left = sum-same (λ m. cond (counts_in d.times id shift block m) (weight m.reading) 0)
      (λ m. counts true m + counts false m) ms
      (λ m _. split-bit (counts_in d.times id shift block m) m.mark.delay (weight m.reading)) in
      let right = sum-same (λ e. cond (passes_sent d.links (λ n. eqb n node) (sends d.times flow block) events e)
      (weight (event_reading e)) 0)
      (λ e. passing true e + passing false e) events
      (λ e _. sent-split d flow block (passes d.links (λ n. eqb n node) e) (weight (event_reading e))
      (events_of events (event_packet e)) (journeys (event_packet e))) in
      let left_both = sum-both (counts true) (counts false) ms in
      let right_both = sum-both (passing true) (passing false) events in
      let set = counted-bit d events journeys attributed node ms records flow block f flow_within covered true weight in
      let unset = counted-bit d events journeys attributed node ms records flow block f flow_within covered false weight in
      left ∙ left_both ∙ ap (λ n. n + sum_by (counts false) ms) set ∙ ap (λ n. sum_by (passing true) events + n) unset
      ∙ sym right_both ∙ sym right

  -- and those with the delay bit
  pub covered-delayed :
      sum_by (λ m. cond (delays_in d.times (slice_index_or d.flows flow f).id (node_shift d node) block m) (weight m.reading) 0) ms
      ≡ sum_by (λ e. cond (passes_sent d.links (λ n. eqb n node) (sends_delayed d.times flow block) events e)
      (weight (event_reading e)) 0) events
  covered-delayed =
      let id = (slice_index_or d.flows flow f).id in
      let shift = node_shift d node in
      let left = sum-same (λ m. cond (delays_in d.times id shift block m) (weight m.reading) 0)
      (λ m. cond (counts_bit d.times id shift block true m) (weight m.reading) 0) ms
      (λ m _. ap (λ b. cond (counts_in d.times id shift block m && b) (weight m.reading) 0) (sym (is-set m.mark.delay))) in
      let right = sum-same
      (λ e. cond (passes_sent d.links (λ n. eqb n node) (sends_bit d.times flow block true) events e) (weight (event_reading e)) 0)
      (λ e. cond (passes_sent d.links (λ n. eqb n node) (sends_delayed d.times flow block) events e) (weight (event_reading e)) 0)
      events
      (λ e _. ap (λ b. cond (passes d.links (λ n. eqb n node) e && b) (weight (event_reading e)) 0)
      (any-agree (sends_bit d.times flow block true) (sends_delayed d.times flow block)
      (events_of events (event_packet e)) one)) in
      left ∙ counted-bit d events journeys attributed node ms records flow block f flow_within covered true weight
      ∙ right
    where
      one : (x : Event) → sends_bit d.times flow block true x ≡ sends_delayed d.times flow block x
      one (Send p g w time sent bit) =
          ap (λ b. (eqb g flow && eqb (block_at d.times sent) block) && b) (is-set bit)
      one (Hop p link time reading) = refl
      one (Lost p) = refl

module _ (d : DomainValue) (lawful : IsLawful d) (events : List Event) (journeys : AreJourneys d events)
    (attributed : AreAttributed d events) (node : ℕ) (within : node < length d.nodes) (ms : List Marked)
    (records : Records d events node ms) (flow block : ℕ) (f : FlowValue) (flow_within : flow < length d.flows)
    (reported : Reports d block) (weight : ℕ → ℕ) where
  -- each capture covers a reported block
  abbrev reported-covered : CoversAt d node block
  reported-covered = λ n. (lawful.reported block).0 reported node n within

  -- so this holds of reported blocks
  pub counted-all :
      sum_by (λ m. cond (counts_in d.times (slice_index_or d.flows flow f).id (node_shift d node) block m) (weight m.reading) 0) ms
      ≡ sum_by (λ e. cond (passes_sent d.links (λ n. eqb n node) (sends d.times flow block) events e)
      (weight (event_reading e)) 0) events
  counted-all =
      covered-all d events journeys attributed node ms records flow block f flow_within reported-covered weight

  pub counted-delayed :
      sum_by (λ m. cond (delays_in d.times (slice_index_or d.flows flow f).id (node_shift d node) block m) (weight m.reading) 0) ms
      ≡ sum_by (λ e. cond (passes_sent d.links (λ n. eqb n node) (sends_delayed d.times flow block) events e)
      (weight (event_reading e)) 0) events
  counted-delayed =
      covered-delayed d events journeys attributed node ms records flow block f flow_within reported-covered weight
