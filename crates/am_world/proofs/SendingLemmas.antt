-- How the packets of a world were sent, and what a packet's passes have of it.
use Rattle.std.proofs.Common.{◌≡◌, ◌≢◌, ◌∙◌, ℕ, ◌+◌, ◌%◌, ◌<◌, Bool, true, false, cond, eqb, ◌&&◌, List, [], ◌∷◌, ◌++◌, length, get_or, take, Option, Some, None, refl, sym, ap, subst, arith, inl, inr}
use Rattle.std.specs.Prelude.{All, nat_lt, IfSome, slice_index_or}
use Rattle.std.specs.List.{list_any}
use Rattle.std.proofs.lemmas.Bool.{false≢true, cases_Bool, eqb-true, eq-eqb}
use Rattle.std.proofs.lemmas.Bool.Decides.{nat_tests}
use Rattle.std.proofs.lemmas.List.{append-nil, get_or_default}
use Rattle.std.proofs.lemmas.List.Elements.{All-nil, All-cons, All-head, All-tail, filter_more}
use Rattle.am_clock.specs.Times.{parity}
use Rattle.am_domain.specs.declared.link.Edge.{Edge}
use Rattle.am_domain.specs.Values.{FlowValue}
use Rattle.am_domain.specs.Domains.{DomainValue, IsLawful}
use Rattle.am_world.specs.declared.capture.Sent.{Sent}
use Rattle.am_world.specs.declared.event.Event.{Event}
use Rattle.am_world.specs.declared.event.Event.TheVariants.{Send, Hop, Lost}
use Rattle.am_world.specs.Events.{event_packet, events_of}
use Rattle.am_world.specs.Worlds.{Travels, IsJourney, IsValid}
use Rattle.am_world.specs.Passes.{block_at, sends_marked, is_bit}
use Rattle.am_world.specs.Captures.{flow_at, mark_at, sending_after, NamesThere, Sendings, sending_at, AreSendings, HaveFlows}
use Rattle.am_world.proofs.ClusterLemmas.{same-tests}
use Rattle.am_world.proofs.ConservationLemmas.{or-none}
use Rattle.am_world.proofs.JourneyLemmas.{IsOfSends, travels-unsent}

-- what holds of the events of each packet holds of all events
pub all-by-packets : (P : Event → Type 0) (events : List Event) → ((packet : ℕ) → All P (events_of events packet))
    → All P events
all-by-packets P [] each = All-nil P
all-by-packets P (e ∷ es) each = All-cons P e es (All-head P e (events_of es (event_packet e)) first) (all-by-packets P es rest)
  where
    first : All P (e ∷ events_of es (event_packet e))
    first =
        let own : events_of (e ∷ es) (event_packet e) ≡ e ∷ events_of es (event_packet e)
        = rw (eq-eqb (event_packet e) (event_packet e) refl) refl in
        subst (All P) own (each (event_packet e))

    rest : (packet : ℕ) → All P (events_of es packet)
    rest packet = elim (cases_Bool (eqb (event_packet e) packet)) [
      | inl same ↦
          let here : events_of (e ∷ es) packet ≡ e ∷ events_of es packet = rw same refl in
          All-tail P e (events_of es packet) (subst (All P) here (each packet))
      | inr other ↦
          let there : events_of (e ∷ es) packet ≡ events_of es packet = rw other refl in
          subst (All P) there (each packet)
    ]

-- the flows and links of a valid world exist
travels-there : (d : DomainValue) (node : ℕ) (es : List Event) → Travels d.links node es → All (NamesThere d) es
travels-there d node [] t = All-nil (NamesThere d)
travels-there d node (Send p f v time reading delay ∷ es) t = absurd t
travels-there d node (Hop p link time reading ∷ es) t =
    All-cons (NamesThere d) (Hop p link time reading) es t.0 (travels-there d _ es t.2)
travels-there d node (Lost p ∷ es) t =
    subst (λ more. All (NamesThere d) (Lost p ∷ more)) (sym t) (All-cons (NamesThere d) (Lost p) [] tt (All-nil (NamesThere d)))

journey-there : (d : DomainValue) (es : List Event) → IsJourney d es → All (NamesThere d) es
journey-there d [] j = All-nil (NamesThere d)
journey-there d (Send p f v time reading delay ∷ es) j =
    All-cons (NamesThere d) (Send p f v time reading delay) es j.0 (travels-there d v es j.3)
journey-there d (Hop p link time reading ∷ es) j = absurd j
journey-there d (Lost p ∷ es) j = absurd j

pub valid-there : (d : DomainValue) (events : List Event) → IsValid d events → All (NamesThere d) events
valid-there d events valid = all-by-packets (NamesThere d) events (λ p. journey-there d (events_of events p) (valid.journeys p))

-- one event more
sending-more : (d : DomainValue) (at : Option Sent) (es : List Event) (e : Event)
    → sending_after d (sending_after d at es) (e ∷ []) ≡ sending_after d at (es ++ e ∷ [])
sending-more d at [] e = refl
sending-more d at (Send p f v time reading delay ∷ es) e =
    sending-more d (Some (record { flow = f; mark = mark_at d f reading delay })) es e
sending-more d at (Hop p link time reading ∷ es) e = sending-more d at es e
sending-more d at (Lost p ∷ es) e = sending-more d at es e

-- where the sending of an event's packet goes on, and all others stay, they are those after one event more
pub sendings-step : (d : DomainValue) (events : List Event) (i : ℕ) (none : Event) (old new : Sendings)
    → i < length events
    → ((q : ℕ) → sending_at new q ≡ cond (eqb (event_packet (get_or events i none)) q)
    (sending_after d (sending_at old q) (get_or events i none ∷ [])) (sending_at old q))
    → AreSendings d (take i events) old → AreSendings d (take (i + 1) events) new
sendings-step d events i none old new below noted sendings q =
    let e = get_or events i none in
    let more = filter_more (λ x. eqb (event_packet x) q) events i none below in
    elim (cases_Bool (eqb (event_packet e) q)) [
      | inl same ↦
          let all : events_of (take (i + 1) events) q ≡ events_of (take i events) q ++ e ∷ [] = more ∙ rw same refl in
          let found : sending_at new q ≡ sending_after d (sending_at old q) (e ∷ []) = noted q ∙ rw same refl in
          found ∙ ap (λ s. sending_after d s (e ∷ [])) (sendings q)
          ∙ sending-more d None (events_of (take i events) q) e ∙ ap (sending_after d None) (sym all)
      | inr other ↦
          let all : events_of (take (i + 1) events) q ≡ events_of (take i events) q
          = more ∙ rw other (append-nil (events_of (take i events) q)) in
          let found : sending_at new q ≡ sending_at old q = noted q ∙ rw other refl in
          found ∙ sendings q ∙ ap (sending_after d None) (sym all)
    ]

-- so they are known, and their flows exist
pub record AreKnown (d : DomainValue) (events : List Event) (sendings : Sendings) : Type 0 where
  pub sendings_are : AreSendings d events sendings
  pub flows_there : HaveFlows d sendings

-- a packet that travels on is sent as it was
sending-kept : (d : DomainValue) (at : Option Sent) (links : List Edge) (node : ℕ) (es : List Event) → Travels links node es
    → sending_after d at es ≡ at
sending-kept d at links node [] t = refl
sending-kept d at links node (Send p f v time reading delay ∷ es) t = absurd t
sending-kept d at links node (Hop p link time reading ∷ es) t = sending-kept d at links _ es t.2
sending-kept d at links node (Lost p ∷ es) t = ap (sending_after d at) t

-- the flow exists, and the mark has its number
pub record IsOf (d : DomainValue) (s : Sent) : Type 0 where
  pub within : s.flow < length d.flows
  pub named : s.mark.flow ≡ (flow_at d s.flow).id

pub sending-of : (d : DomainValue) (es : List Event) → IsJourney d es → IfSome (sending_after d None es) (IsOf d)
sending-of d [] j = tt
sending-of d (Send p f v time reading delay ∷ es) j =
    let at = Some (record { flow = f; mark = mark_at d f reading delay }) in
    let is : IfSome at (IsOf d) = record { within = j.0; named = refl } in
    subst (λ s. IfSome s (IsOf d)) (sym (sending-kept d at d.links v es j.3)) is
sending-of d (Hop p link time reading ∷ es) j = absurd j
sending-of d (Lost p ∷ es) j = absurd j

-- the colour of a block
pub colour-parity : (block : ℕ) → parity (eqb (block % 2) 1) ≡ block % 2
colour-parity block = elim (cases_Bool (eqb (block % 2) 1)) [
  | inl odd ↦ rw odd (omega (arith, eqb-true (block % 2) 1 odd))
  | inr even ↦ rw even (omega (arith, apart even))
]
  where
    apart : eqb (block % 2) 1 ≡ false → block % 2 ≢ 1
    apart even same = false≢true (sym even ∙ eq-eqb (block % 2) 1 same)

-- a packet was sent with this flow, colour and delay bit
abbrev pub sent_so : ℕ → Bool → Bool → Option Sent → Bool
sent_so flow colour delayed None = false
sent_so flow colour delayed (Some s) =
    (eqb s.flow flow && is_bit s.mark.loss colour) && is_bit s.mark.delay delayed

marked-only : (d : DomainValue) (flow : ℕ) (colour delayed : Bool) → IsOfSends (sends_marked d.times flow colour delayed)
marked-only d flow colour delayed = record { hops = λ p link time reading. refl; losses = λ p. refl }

pub sent-test : (d : DomainValue) (es : List Event) → IsJourney d es → (flow : ℕ) (colour delayed : Bool)
    → list_any (sends_marked d.times flow colour delayed) es ≡ sent_so flow colour delayed (sending_after d None es)
sent-test d [] j flow colour delayed = refl
sent-test d (Send p f v time reading delay ∷ es) j flow colour delayed =
    let so = sends_marked d.times flow colour delayed in
    let at = Some (record { flow = f; mark = mark_at d f reading delay }) in
    let block = block_at d.times reading in
    let first = or-none (so (Send p f v time reading delay)) (list_any so es)
    (travels-unsent so (marked-only d flow colour delayed) d.links v es j.3) in
    let bit : eqb (block % 2) (parity colour) ≡ is_bit (eqb (block % 2) 1) colour
    = ap (λ n. eqb n (parity colour)) (sym (colour-parity block)) in
    first
    ∙ ap (λ b. (eqb f flow && b) && is_bit delay delayed) bit
    ∙ ap (sent_so flow colour delayed) (sym (sending-kept d at d.links v es j.3))
sent-test d (Hop p link time reading ∷ es) j flow colour delayed = absurd j
sent-test d (Lost p ∷ es) j flow colour delayed = absurd j

-- no two flows have the same number
flow-by-id : (d : DomainValue) → IsLawful d → (a b : ℕ) (f g : FlowValue) → a < length d.flows → b < length d.flows
    → (slice_index_or d.flows a f).id ≡ (slice_index_or d.flows b g).id → a ≡ b
flow-by-id d lawful a b f g a-below b-below same = elim (cases_Bool (eqb a b)) [
  | inl same_place ↦ eqb-true a b same_place
  | inr other ↦ elim (cases_Bool (nat_lt a b)) [
    | inl less ↦ absurd (lawful.flow_ids_differ b g b-below a f (grind (arith, nat_tests)) same)
    | inr more ↦
        let apart : a ≢ b = λ e. false≢true (sym other ∙ eq-eqb a b e) in
        absurd (lawful.flow_ids_differ a f a-below b g (grind (arith, nat_tests)) (sym same))
  ]
]

-- so a mark's number tells the flow
pub flow-test : (d : DomainValue) → IsLawful d → (s : Sent) → IsOf d s → (flow : ℕ) (f : FlowValue) → flow < length d.flows
    → eqb s.mark.flow (slice_index_or d.flows flow f).id ≡ eqb s.flow flow
flow-test d lawful s is flow f below =
    same-tests (eqb s.mark.flow (slice_index_or d.flows flow f).id) (eqb s.flow flow) to from
  where
    to : eqb s.mark.flow (slice_index_or d.flows flow f).id ≡ true → eqb s.flow flow ≡ true
    to h =
        let same : s.mark.flow ≡ (slice_index_or d.flows flow f).id = eqb-true s.mark.flow (slice_index_or d.flows flow f).id h in
        eq-eqb s.flow flow (flow-by-id d lawful s.flow flow _ f is.within below (sym is.named ∙ same))

    from : eqb s.flow flow ≡ true → eqb s.mark.flow (slice_index_or d.flows flow f).id ≡ true
    from h =
        let same : s.flow ≡ flow = eqb-true s.flow flow h in
        let default : flow_at d flow ≡ slice_index_or d.flows flow f = get_or_default d.flows flow _ f below in
        eq-eqb s.mark.flow (slice_index_or d.flows flow f).id
        (is.named ∙ ap (λ n. (flow_at d n).id) same ∙ ap (λ (x : FlowValue). x.id) default)
