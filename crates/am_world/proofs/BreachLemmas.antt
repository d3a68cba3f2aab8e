-- The first breach of a world, and that there is none exactly where the world is valid and timed.
use Rattle.std.proofs.Common.{◌≡◌, ◌∙◌, ℕ, zero, suc, ◌+◌, ◌<◌, ◌≤◌, Bool, true, false, cond, eqb, ◌&&◌, List, [], ◌∷◌, ◌++◌, length, get_or, take, drop, Option, Some, None, refl, sym, ap, subst, arith, inl, inr}
use Rattle.std.specs.Prelude.{All, Contains, not, is_some, nat_lt, nat_eq, IfSome, ◌↔◌}
use Rattle.std.specs.HashMap.{get}
use Rattle.std.specs.List.{list_any}
use Rattle.std.proofs.lemmas.Bool.{false≢true, cases_Bool, cases_eq, and_parts, and_from, and_right, eqb-true, eq-eqb}
use Rattle.std.proofs.lemmas.Bool.Decides.{nat_tests}
use Rattle.std.proofs.lemmas.List.{append-nil, take_all, take-append-drop, get_or_default, get_or-take, length-take}
use Rattle.std.proofs.lemmas.List.Elements.{filter_more, All-append, All-contains, All-get_or, All-from_get_or}
use Rattle.am_clock.specs.Times.{Times}
use Rattle.am_domain.specs.declared.link.Edge.{Edge}
use Rattle.am_domain.specs.Network.{has_links_out}
use Rattle.am_domain.specs.Domains.{DomainValue}
use Rattle.am_graph.specs.Graphs.{start_of, end_of}
use Rattle.am_world.specs.declared.event.Event.{Event}
use Rattle.am_world.specs.declared.event.Event.TheVariants.{Send, Hop, Lost}
use Rattle.am_world.specs.declared.rule.Rule.{Rule}
use Rattle.am_world.specs.declared.rule.Rule.TheVariants.{BadNumber, PacketTwice, NotEntry, UnknownPacket, AfterLost, WrongNode, Unfinished, ClockWide, DelayWide}
use Rattle.am_world.specs.declared.rule.Breach.{Breach}
use Rattle.am_world.specs.declared.trip.Trip.{Trip}
use Rattle.am_world.specs.Events.{event_packet, events_of, is_lost, node_after, present}
use Rattle.am_world.specs.Worlds.{Travels, IsJourney, AreJourneys, IsOver, IsNear, IsOnTime, IsInTime}
use Rattle.am_world.specs.Drops.{is_at, is_waiting}
use Rattle.am_world.specs.Trips.{NamesLink, sent_after, no_trip, trip_after, Trips, trip_at, AreTrips}
use Rattle.am_world.specs.Breaches.{is_send, misnames, begins_at, are_apart, is_beyond, breaks_rule, is_unfinished, event_at, trip_before, breaks, place_of, is_last, IsFirstBreach, IsValidAndTimed, TellsRule, KeepRules, TellsBreach, AreOver, TellsUnfinished}
use Rattle.am_world.proofs.SumLemmas.{from-filter, to-filter}
use Rattle.am_world.proofs.TripLemmas.{trips-step}
use Rattle.am_world.proofs.JourneyLemmas.{travels-front, journeys-front}

-- a packet that travels on was sent when it was
sent-stays : (links : List Edge) (v time : ℕ) (es : List Event) → Travels links v es → sent_after (Some time) es ≡ Some time
sent-stays links v time [] t = refl
sent-stays links v time (Send p f w other reading delay ∷ es) t = absurd t
sent-stays links v time (Hop p link other reading ∷ es) t = sent-stays links (end_of links link) time es t.2
sent-stays links v time (Lost p ∷ es) t = ap (sent_after (Some time)) t

-- a packet that is there, and not lost, may go on so
abbrev MayFollow : List Edge → Option ℕ → Event → Type 0
MayFollow links at (Send p f v time reading delay) = ⊥
MayFollow links at (Hop p link time reading) = begins_at links at link ≡ true
MayFollow links at (Lost p) = Unit {0}

travels-more : (links : List Edge) (v : ℕ) (es : List Event) (e : Event) → Travels links v es → list_any is_lost es ≡ false
    → MayFollow links (node_after links (Some v) es) e → Travels links v (es ++ e ∷ [])
travels-more links v [] (Send p f w time reading delay) t kept follows = absurd follows
travels-more links v [] (Hop p link time reading) t kept follows =
    let both = and_parts (nat_lt link (length links)) (eqb (start_of links link) v) follows in
    let below : nat_lt link (length links) ≡ true = both.0 in
    (grind (arith, nat_tests), eqb-true (start_of links link) v both.1, tt)
travels-more links v [] (Lost p) t kept follows = refl
travels-more links v (Send p f w time reading delay ∷ es) e t kept follows = absurd t
travels-more links v (Hop p link time reading ∷ es) e t kept follows =
    (t.0, t.1, travels-more links (end_of links link) es e t.2 kept follows)
travels-more links v (Lost p ∷ es) e t kept follows = absurd (false≢true (sym kept))

travels-last : (links : List Edge) (v : ℕ) (es : List Event) (e : Event) → Travels links v (es ++ e ∷ [])
    → (list_any is_lost es ≡ false) × MayFollow links (node_after links (Some v) es) e
travels-last links v [] (Send p f w time reading delay) t = absurd t
travels-last links v [] (Hop p link time reading) t =
    let below : link < length links = t.0 in
    let here : nat_lt link (length links) ≡ true = grind (arith, nat_tests) in
    (refl, and_from (nat_lt link (length links)) (eqb (start_of links link) v) here (eq-eqb (start_of links link) v t.1))
travels-last links v [] (Lost p) t = (refl, tt)
travels-last links v (Send p f w time reading delay ∷ es) e t = absurd t
travels-last links v (Hop p link time reading ∷ es) e t = travels-last links (end_of links link) es e t.2
travels-last links v (Lost p ∷ []) e t = absurd (cc t)
travels-last links v (Lost p ∷ (x ∷ es)) e t = absurd (cc t)

-- each later event of a packet comes in time after it was sent
abbrev pub IsTimely : Times → List Event → Type 0
IsTimely t [] = Unit {0}
IsTimely t (s ∷ es) = All (IsInTime t s) es

not-from : (b : Bool) → not b ≡ false → b ≡ true
not-from true h = refl
not-from false h = absurd (false≢true (sym h))

named-flow : (d : DomainValue) (p f v time reading : ℕ) (delay : Bool) → misnames d (Send p f v time reading delay) ≡ false
    → (f < length d.flows) × (v < length d.nodes)
named-flow d p f v time reading delay h = (grind (arith, nat_tests), grind (arith, nat_tests))

pub names-link : (d : DomainValue) (e : Event) → misnames d e ≡ false → NamesLink d.links e
names-link d (Send p f v time reading delay) h = tt
names-link d (Hop p link time reading) h = grind (arith, nat_tests)
names-link d (Lost p) h = tt

beyond-in : (t : Times) (sent time : ℕ) → is_beyond t sent time ≡ false → (sent + t.delay_min ≤ time) × (time ≤ sent + t.delay_max)
beyond-in t sent time h = (grind (arith, nat_tests), grind (arith, nat_tests))

in-beyond : (t : Times) (sent time : ℕ) → sent + t.delay_min ≤ time → time ≤ sent + t.delay_max → is_beyond t sent time ≡ false
in-beyond t sent time early late = grind (arith, nat_tests)

near-from : (t : Times) (time reading : ℕ) → are_apart t time reading ≡ false → IsNear t time reading
near-from t time reading h = record { behind = grind (arith, nat_tests); ahead = grind (arith, nat_tests) }

near-to : (t : Times) (time reading : ℕ) → IsNear t time reading → are_apart t time reading ≡ false
near-to t time reading near =
    let behind = near.behind in
    let ahead = near.ahead in
    grind (arith, nat_tests)

all-one : {X : Type 0} (P : X → Type 0) (x : X) → P x → All P (x ∷ [])
all-one P x h zero y below = h
all-one P x h (suc k) y below = absurd (omega (arith, below))

module _ (d : DomainValue) where
  abbrev Keeps : List Event → Event → Type 0
  Keeps es e = (rule : Rule) → breaks_rule d (trip_after d.links no_trip es) e rule ≡ false

  -- a journey goes on by an event that breaks no rule
  journey-more : (es : List Event) (e : Event) → IsJourney d es → Keeps es e → IsJourney d (es ++ e ∷ [])
  journey-more [] (Send p f v time reading delay) j keeps =
      let named = named-flow d p f v time reading delay (keeps BadNumber) in
      (named.0, named.1, keeps NotEntry, tt)
  journey-more [] (Hop p link time reading) j keeps = absurd (false≢true (sym (keeps UnknownPacket)))
  journey-more [] (Lost p) j keeps = absurd (false≢true (sym (keeps UnknownPacket)))
  journey-more (Send p f v time reading delay ∷ es) (Send q g w next read bit) j keeps =
      absurd (false≢true (sym (keeps PacketTwice) ∙ ap is_some (sent-stays d.links v time es j.3)))
  journey-more (Send p f v time reading delay ∷ es) (Hop q link next read) j keeps = (
    j.0,
    j.1,
    j.2,
    travels-more d.links v es (Hop q link next read) j.3 (keeps AfterLost)
        (not-from (begins_at d.links (node_after d.links (Some v) es) link) (keeps WrongNode)),
  )
  journey-more (Send p f v time reading delay ∷ es) (Lost q) j keeps =
      (j.0, j.1, j.2, travels-more d.links v es (Lost q) j.3 (keeps AfterLost) tt)
  journey-more (Hop p link time reading ∷ es) e j keeps = absurd j
  journey-more (Lost p ∷ es) e j keeps = absurd j

  -- and stays in time
  timely-more : (es : List Event) (e : Event) → IsJourney d es → Keeps es e → IsTimely d.times es
      → IsTimely d.times (es ++ e ∷ [])
  timely-more [] e j keeps timely = λ k x below. absurd (omega (arith, below))
  timely-more (Send p f v sent reading delay ∷ es) e j keeps timely =
      All-append (IsInTime d.times (Send p f v sent reading delay)) es (e ∷ []) timely
      (all-one (IsInTime d.times (Send p f v sent reading delay)) e (here e (keeps DelayWide)))
    where
      here : (x : Event) → breaks_rule d (trip_after d.links no_trip (Send p f v sent reading delay ∷ es)) x DelayWide ≡ false
          → IsInTime d.times (Send p f v sent reading delay) x
      here (Send q g w next read bit) h = tt
      here (Hop q link next read) h =
          λ _. beyond-in d.times sent next
          (ap (is_at (λ s. is_beyond d.times s next)) (sym (sent-stays d.links v sent es j.3)) ∙ h)
      here (Lost q) h = tt
  timely-more (Hop p link time reading ∷ es) e j keeps timely = absurd j
  timely-more (Lost p ∷ es) e j keeps timely = absurd j

  on-time : (trip : Trip) (e : Event) → breaks_rule d trip e ClockWide ≡ false → IsOnTime d.times e
  on-time trip (Send p f v time reading delay) h = near-from d.times time reading h
  on-time trip (Hop p link time reading) h = near-from d.times time reading h
  on-time trip (Lost p) h = tt

  -- the last event of a journey breaks no rule, where it is in time
  keeps-last : (es : List Event) (e : Event) → IsJourney d (es ++ e ∷ []) → IsOnTime d.times e
      → ((s : Event) → Contains es s → IsInTime d.times s e)
      → ((s : Event) → Contains es s → event_packet s ≡ event_packet e) → Keeps es e
  keeps-last [] (Send p f v time reading delay) j on each same BadNumber =
      let flow : f < length d.flows = j.0 in
      let node : v < length d.nodes = j.1 in
      grind (arith, nat_tests)
  keeps-last [] (Send p f v time reading delay) j on each same NotEntry = j.2
  keeps-last [] (Send p f v time reading delay) j on each same ClockWide = near-to d.times time reading on
  keeps-last [] (Send p f v time reading delay) j on each same PacketTwice = refl
  keeps-last [] (Send p f v time reading delay) j on each same UnknownPacket = refl
  keeps-last [] (Send p f v time reading delay) j on each same AfterLost = refl
  keeps-last [] (Send p f v time reading delay) j on each same WrongNode = refl
  keeps-last [] (Send p f v time reading delay) j on each same DelayWide = refl
  keeps-last [] (Send p f v time reading delay) j on each same Unfinished = refl
  keeps-last [] (Hop p link time reading) j on each same rule = absurd j
  keeps-last [] (Lost p) j on each same rule = absurd j
  keeps-last (Send p f v sent reading delay ∷ es) (Send q g w next read bit) j on each same rule =
      absurd (travels-last d.links v es (Send q g w next read bit) j.3).1
  keeps-last (Send p f v sent reading delay ∷ es) (Hop q link next read) j on each same rule =
      let last = travels-last d.links v es (Hop q link next read) j.3 in
      hop rule last.0 last.1
    where
      travels : Travels d.links v es
      travels = (travels-front d.links v es (Hop q link next read ∷ []) j.3)

      hop : (rule : Rule) → list_any is_lost es ≡ false → begins_at d.links (node_after d.links (Some v) es) link ≡ true
          → breaks_rule d (trip_after d.links no_trip (Send p f v sent reading delay ∷ es)) (Hop q link next read) rule ≡ false
      hop BadNumber kept begins =
          let both = and_parts (nat_lt link (length d.links))
          (is_at (λ node. eqb (start_of d.links link) node) (node_after d.links (Some v) es)) begins in
          let below : nat_lt link (length d.links) ≡ true = both.0 in
          grind (arith, nat_tests)
      hop PacketTwice kept begins = refl
      hop NotEntry kept begins = refl
      hop UnknownPacket kept begins = ap (λ s. not (is_some s)) (sent-stays d.links v sent es travels)
      hop AfterLost kept begins = kept
      hop WrongNode kept begins = ap not begins
      hop ClockWide kept begins = near-to d.times next read on
      hop DelayWide kept begins =
          let first : Contains (Send p f v sent reading delay ∷ es) (Send p f v sent reading delay) = (0, omega arith, refl) in
          let in' = each (Send p f v sent reading delay) first (same (Send p f v sent reading delay) first) in
          ap (is_at (λ s. is_beyond d.times s next)) (sent-stays d.links v sent es travels)
          ∙ in-beyond d.times sent next in'.0 in'.1
      hop Unfinished kept begins = refl
  keeps-last (Send p f v sent reading delay ∷ es) (Lost q) j on each same rule =
      let last = travels-last d.links v es (Lost q) j.3 in
      lost rule last.0
    where
      travels : Travels d.links v es
      travels = (travels-front d.links v es (Lost q ∷ []) j.3)

      lost : (rule : Rule) → list_any is_lost es ≡ false
          → breaks_rule d (trip_after d.links no_trip (Send p f v sent reading delay ∷ es)) (Lost q) rule ≡ false
      lost UnknownPacket kept = ap (λ s. not (is_some s)) (sent-stays d.links v sent es travels)
      lost AfterLost kept = kept
      lost BadNumber kept = refl
      lost PacketTwice kept = refl
      lost NotEntry kept = refl
      lost WrongNode kept = refl
      lost ClockWide kept = refl
      lost DelayWide kept = refl
      lost Unfinished kept = refl
  keeps-last (Hop p link time reading ∷ es) e j on each same rule = absurd j
  keeps-last (Lost p ∷ es) e j on each same rule = absurd j

  -- where the first events break no rule, each packet is on a journey so far, and in time
  goes-well : (events : List Event) (n : ℕ) → n ≤ length events → KeepRules d events n → (p : ℕ)
      → IsJourney d (events_of (take n events) p) × IsTimely d.times (events_of (take n events) p)
  goes-well events zero within keep p = (tt, tt)
  goes-well events (suc n) within keep p =
      let e = event_at events n in
      let before = goes-well events n (omega (arith, within)) (λ k rule below. keep k rule (omega (arith, below))) p in
      let here = keep n in
      let more = filter_more (λ x. eqb (event_packet x) p) events n (Lost 0) (omega (arith, within)) in
      let next : suc n ≡ n + 1 = omega arith in
      let one : take (suc n) events ≡ take (n + 1) events = ap (λ k. take k events) next in
      let more' : events_of (take (suc n) events) p
      ≡ events_of (take n events) p ++ cond (eqb (event_packet e) p) (e ∷ []) []
      = ap (λ es. events_of es p) one ∙ more in
      elim (cases_Bool (eqb (event_packet e) p)) [
        | inl same ↦
            let at : event_packet e ≡ p = eqb-true (event_packet e) p same in
            let keeps : Keeps (events_of (take n events) p) e
            = λ rule. subst (λ q. breaks_rule d (trip_after d.links no_trip (events_of (take n events) q)) e rule ≡ false) at
            (here rule (omega arith)) in
            let all : events_of (take (suc n) events) p ≡ events_of (take n events) p ++ e ∷ [] = more' ∙ rw same refl in (
              subst (IsJourney d) (sym all) (journey-more (events_of (take n events) p) e before.0 keeps),
              subst (IsTimely d.times) (sym all) (timely-more (events_of (take n events) p) e before.0 keeps before.1),
            )
        | inr other ↦
            let all : events_of (take (suc n) events) p ≡ events_of (take n events) p
            = more' ∙ rw other (append-nil (events_of (take n events) p)) in
            (subst (IsJourney d) (sym all) before.0, subst (IsTimely d.times) (sym all) before.1)
      ]

  -- all packets of a world without a breach are on journeys
  journeys-from : (events : List Event) → KeepRules d events (length events) → (p : ℕ)
      → IsJourney d (events_of events p) × IsTimely d.times (events_of events p)
  journeys-from events keep p =
      subst (λ es. IsJourney d (events_of es p) × IsTimely d.times (events_of es p)) (take_all (length events) events (omega arith))
      (goes-well events (length events) (omega arith) keep p)

  -- a journey of a packet that is not under way is over
  is-over : (es : List Event) → IsJourney d es
      → ((e : Event) → Contains es e → is_send e ≡ true → is_waiting d.links (has_links_out d.links) es ≡ false)
      → IsOver d.links es
  is-over [] j none node kept at = absurd (cc at)
  is-over (Send p f v time reading delay ∷ es) j none node kept at =
      let s = Send p f v time reading delay in
      let away = none s (0, omega arith, refl) refl in
      sym (rw (kept, at) refl) ∙ away
  is-over (Hop p link time reading ∷ es) j none node kept at = absurd j
  is-over (Lost p ∷ es) j none node kept at = absurd j

  -- and a packet whose journey is over is not under way
  waits-no-more : (es : List Event) → IsOver d.links es → is_waiting d.links (has_links_out d.links) es ≡ false
  waits-no-more es over =
      elim (cases_Bool (list_any is_lost es)) [
        | inl lost ↦ rw lost refl
        | inr kept ↦ rw kept (at (present d.links es) refl kept)
      ]
    where
      at : (o : Option ℕ) → present d.links es ≡ o → list_any is_lost es ≡ false
          → is_at (has_links_out d.links) (present d.links es) ≡ false
      at None here kept = rw here refl
      at (Some v) here kept = rw here (over v kept here)

  -- of a journey in time, each event that comes after the packet is sent is in time
  travels-unsent' : (links : List Edge) (v : ℕ) (es : List Event) (s : Event) → Travels links v es → Contains es s
      → is_send s ≡ true → ⊥
  travels-unsent' links v [] s t at send = omega (arith, at.1)
  travels-unsent' links v (Send p f w time reading delay ∷ es) s t at send = t
  travels-unsent' links v (Hop p link time reading ∷ es) s t (zero, below, here) send =
      false≢true (ap is_send here ∙ send)
  travels-unsent' links v (Hop p link time reading ∷ es) s t (suc k, below, here) send =
      travels-unsent' links (end_of links link) es s t.2 (k, omega (arith, below), here) send
  travels-unsent' links v (Lost p ∷ es) s t (zero, below, here) send = false≢true (ap is_send here ∙ send)
  travels-unsent' links v (Lost p ∷ es) s t (suc k, below, here) send =
      omega (arith, below, ap length t)

  in-time : (es : List Event) → IsJourney d es → IsTimely d.times es → (s e : Event) → Contains es s → is_send s ≡ true
      → Contains es e → is_send e ≡ false → IsInTime d.times s e
  in-time [] j timely s e (k, below, here) send in' hop = absurd (omega (arith, below))
  in-time (Send p f v time reading delay ∷ es) j timely s e (zero, below, here) send (zero, below', here') hop =
      absurd (false≢true (sym hop ∙ sym (ap is_send here')))
  in-time (Send p f v time reading delay ∷ es) j timely s e (zero, below, here) send (suc k, below', here') hop =
      subst (λ x. IsInTime d.times x e) here
      (All-contains (IsInTime d.times (Send p f v time reading delay)) es e timely (k, omega (arith, below'), here'))
  in-time (Send p f v time reading delay ∷ es) j timely s e (suc k, below, here) send in' hop =
      absurd (travels-unsent' d.links v es s j.3 (k, omega (arith, below), here) send)
  in-time (Hop p link time reading ∷ es) j timely s e at send in' hop = absurd j
  in-time (Lost p ∷ es) j timely s e at send in' hop = absurd j

  -- a world without a breach is valid and timed
  pub sound : (events : List Event) → KeepRules d events (length events) → AreOver d events (length events) → IsValidAndTimed d events
  sound events keep over = record {
    valid = record {
      journeys = λ p. (journeys-from events keep p).0;
      over = λ p. is-over (events_of events p) (journeys-from events keep p).0 (λ e at send.
          let from = from-filter (λ x. eqb (event_packet x) p) events e at in
          let same : event_packet e ≡ p = eqb-true (event_packet e) p from.1 in
          let found : event_at events from.0.0 ≡ e = get_or_default events from.0.0 (Lost 0) e from.0.1 ∙ from.0.2 in
          let none : is_unfinished d events e ≡ false
          = ap (is_unfinished d events) (sym found) ∙ over from.0.0 from.0.1 in
          subst (λ q. is_waiting d.links (has_links_out d.links) (events_of events q) ≡ false) same
          (ap (λ b. b && is_waiting d.links (has_links_out d.links) (events_of events (event_packet e))) (sym send) ∙ none));
    };
    timed = record {
      clocks = All-from_get_or (IsOnTime d.times) events (Lost 0)
          (λ i below. on-time (trip_before d events i) (event_at events i) (keep i ClockWide below));
      delays = All-from_get_or (λ s. All (IsInTime d.times s) events) events (Lost 0) (λ i below.
          All-from_get_or (IsInTime d.times (event_at events i)) events (Lost 0) (λ k within.
          pair (event_at events i) (event_at events k) (i, below, get-itself events i below) (k, within, get-itself events k within)));
    };
  }
    where
      get-itself : (xs : List Event) (i : ℕ) → i < length xs → get_or xs i (event_at xs i) ≡ event_at xs i
      get-itself xs i below = get_or_default xs i (event_at xs i) (Lost 0) below

      pair : (s e : Event) → Contains events s → Contains events e → IsInTime d.times s e
      pair (Send p f v time reading delay) (Hop q link next read) at in' = λ same.
          let journey = journeys-from events keep p in
          let s = Send p f v time reading delay in
          let e = Hop q link next read in
          in-time (events_of events p) journey.0 journey.1 s e
          (to-filter (λ x. eqb (event_packet x) p) events s at (eq-eqb p p refl)) refl
          (to-filter (λ x. eqb (event_packet x) p) events e in' (eq-eqb q p (sym same))) refl same
      pair (Send p f v time reading delay) (Send q g w next read bit) at in' = tt
      pair (Send p f v time reading delay) (Lost q) at in' = tt
      pair (Hop p link time reading) e at in' = tt
      pair (Lost p) e at in' = tt

  -- and such a world has no breach
  pub keeps-all : (events : List Event) → IsValidAndTimed d events → KeepRules d events (length events)
  keeps-all events good k rule below =
      let e = event_at events k in
      let p = event_packet e in
      let more = filter_more (λ x. eqb (event_packet x) p) events k (Lost 0) below in
      let all : events_of (take (k + 1) events) p ≡ events_of (take k events) p ++ e ∷ []
      = more ∙ rw (eq-eqb p p refl) refl in
      let apart : take (k + 1) events ++ drop (k + 1) events ≡ events = take-append-drop (k + 1) events in
      let journeys = journeys-front d (take (k + 1) events) (drop (k + 1) events)
      (subst (AreJourneys d) (sym apart) good.valid.journeys) in
      let within = λ (s : Event) (at : Contains (events_of (take k events) p) s).
      from-filter (λ x. eqb (event_packet x) p) (take k events) s at in
      keeps-last (events_of (take k events) p) e (subst (IsJourney d) all (journeys p))
      (All-get_or (IsOnTime d.times) events k (Lost 0) below good.timed.clocks)
      (λ s at. All-get_or (IsInTime d.times s) events k (Lost 0) below
      (All-contains (λ x. All (IsInTime d.times x) events) events s good.timed.delays
      (contains-taken events k s (within s at).0)))
      (λ s at. eqb-true (event_packet s) p (within s at).1) rule
    where
      contains-taken : (xs : List Event) (n : ℕ) (x : Event) → Contains (take n xs) x → Contains xs x
      contains-taken xs n x at =
          let short = length-take n xs in
          let within : at.0 < n = omega (arith, at.1, short) in
          (at.0, omega (arith, at.1, short), sym (get_or-take n xs at.0 x within) ∙ at.2)

  pub all-over : (events : List Event) → IsValidAndTimed d events → AreOver d events (length events)
  all-over events good k below =
      let e = event_at events k in
      and_right (is_send e) (is_waiting d.links (has_links_out d.links) (events_of events (event_packet e)))
      (waits-no-more (events_of events (event_packet e)) (good.valid.over (event_packet e)))

-- the first events were looked at, and broke no rule
pub record IsSeen (d : DomainValue) (events : List Event) (k : ℕ) (trips : Trips) : Type 0 where
  pub known : AreTrips d.links (take k events) trips
  pub keep : KeepRules d events k

-- what is known of the next event's packet
pub trip-known : (d : DomainValue) (events : List Event) (k key : ℕ) (trip : Trip) (trips : Trips) (e : Event)
    → k < length events → IsSeen d events k trips → key ≡ event_packet (get_or events k e) → trip ≡ trip_at trips key
    → trip ≡ trip_before d events k
trip-known d events k key trip trips e below seen packet known =
    known ∙ seen.known key
    ∙ ap (λ p. trip_after d.links no_trip (events_of (take k events) p))
    (packet ∙ ap event_packet (get_or_default events k e (Lost 0) below))

-- it breaks no rule either
pub seen-more : (d : DomainValue) (events : List Event) (k key : ℕ) (trip next : Trip) (old new : Trips) (e : Event)
    (links : List Edge) → links ≡ d.links → k < length events → key ≡ event_packet (get_or events k e) → trip ≡ trip_at old key
    → next ≡ trip_after links trip (get_or events k e ∷ [])
    → ((q : ℕ) → get nat_eq new q ≡ cond (eqb key q) (Some next) (get nat_eq old q))
    → TellsRule d trip (get_or events k e) None → IsSeen d events k old → IsSeen d events (k + 1) new
seen-more d events k key trip next old new e links those below packet known after updated none seen =
    let at = trip-known d events k key trip old e below seen packet known in
    let same = get_or_default events k e (Lost 0) below in
    record {
      known = trips-step d.links events k e key trip next old new below packet known
          (subst (λ ls. next ≡ trip_after ls trip (get_or events k e ∷ [])) those after) updated seen.known;
      keep = λ i rule less. elim (cases_eq i k) [
        | inl last ↦
            subst (λ n. breaks_rule d (trip_before d events n) (event_at events n) rule ≡ false) (sym last)
            (subst (λ x. breaks_rule d (trip_before d events k) x rule ≡ false) same
            (subst (λ t. breaks_rule d t (get_or events k e) rule ≡ false) at (none rule)))
        | inr other ↦ seen.keep i rule (omega (arith, less, other))
      ];
    }

-- only single events break the rules that do not come last
breaks-single : (d : DomainValue) (events : List Event) (k : ℕ) (rule : Rule) → is_last rule ≡ false
    → breaks d events k rule ≡ breaks_rule d (trip_before d events k) (event_at events k) rule
breaks-single d events k BadNumber h = refl
breaks-single d events k PacketTwice h = refl
breaks-single d events k NotEntry h = refl
breaks-single d events k UnknownPacket h = refl
breaks-single d events k AfterLost h = refl
breaks-single d events k WrongNode h = refl
breaks-single d events k ClockWide h = refl
breaks-single d events k DelayWide h = refl
breaks-single d events k Unfinished h = absurd (false≢true (sym h))

last-is : (rule : Rule) → is_last rule ≡ true → rule ≡ Unfinished
last-is BadNumber h = absurd (false≢true h)
last-is PacketTwice h = absurd (false≢true h)
last-is NotEntry h = absurd (false≢true h)
last-is UnknownPacket h = absurd (false≢true h)
last-is AfterLost h = absurd (false≢true h)
last-is WrongNode h = absurd (false≢true h)
last-is ClockWide h = absurd (false≢true h)
last-is DelayWide h = absurd (false≢true h)
last-is Unfinished h = refl

broken-single : (d : DomainValue) (trip : Trip) (e : Event) (rule : Rule) → breaks_rule d trip e rule ≡ true → is_last rule ≡ false
broken-single d trip e BadNumber h = refl
broken-single d trip e PacketTwice h = refl
broken-single d trip e NotEntry h = refl
broken-single d trip e UnknownPacket h = refl
broken-single d trip e AfterLost h = refl
broken-single d trip e WrongNode h = refl
broken-single d trip e ClockWide h = refl
broken-single d trip e DelayWide h = refl
broken-single d trip e Unfinished h = absurd (false≢true h)

-- the first breach of a single event is the first breach
pub first-single : (d : DomainValue) (events : List Event) (b : Breach) → TellsBreach d events (Some b) → IsFirstBreach d events b
first-single d events b (within, told, keep) =
    let single = broken-single d (trip_before d events b.event) (event_at events b.event) b.rule told.0 in
    record {
      within = within;
      broken = breaks-single d events b.event b.rule single ∙ told.0;
      first = λ a before below. elim before [
        | inl apart ↦ absurd (false≢true (sym single ∙ apart.1))
        | inr alike ↦
            let single' : is_last a.rule ≡ false = alike.0 ∙ single in
            breaks-single d events a.event a.rule single' ∙ elim alike.1 [
              | inl less ↦ keep a.event a.rule less
              | inr here ↦
                  subst (λ k. breaks_rule d (trip_before d events k) (event_at events k) a.rule ≡ false) (sym here.0)
                  (told.1 a.rule here.1)
            ]
      ];
    }

-- where no single event breaks a rule, it is the first packet that is neither lost nor delivered
pub first-last : (d : DomainValue) (events : List Event) (b : Breach) → KeepRules d events (length events)
    → TellsUnfinished d events (Some b) → IsFirstBreach d events b
first-last d events b keep (within, is, stays, over) = record {
  within = within;
  broken = subst (λ rule. breaks d events b.event rule ≡ true) (sym is) stays;
  first = λ a before below. elim (cases_Bool (is_last a.rule)) [
    | inr single ↦ breaks-single d events a.event a.rule single ∙ keep a.event a.rule below
    | inl last ↦
        let unfinished = last-is a.rule last in
        elim before [
          | inl apart ↦ absurd (false≢true (sym (ap not last) ∙ apart.0))
          | inr alike ↦ elim alike.1 [
            | inl less ↦ subst (λ rule. breaks d events a.event rule ≡ false) (sym unfinished) (over a.event less)
            | inr here ↦ absurd (omega (arith, here.1, ap place_of unfinished, ap place_of is))
          ]
        ]
  ];
}

-- a world with a breach is not valid and timed
pub not-single : (d : DomainValue) (events : List Event) (b : Breach) → TellsBreach d events (Some b) → IsValidAndTimed d events → ⊥
not-single d events b (within, told, keep) good =
    false≢true (sym (keeps-all d events good b.event b.rule within) ∙ told.0)

pub not-last : (d : DomainValue) (events : List Event) (b : Breach) → TellsUnfinished d events (Some b) → IsValidAndTimed d events → ⊥
not-last d events b (within, is, stays, over) good = false≢true (sym (all-over d events good b.event within) ∙ stays)

-- the links of a world without a breach are those of the domain
pub names-links : (d : DomainValue) (events : List Event) → KeepRules d events (length events) → All (NamesLink d.links) events
names-links d events keep =
    All-from_get_or (NamesLink d.links) events (Lost 0) (λ i below. names-link d (event_at events i) (keep i BadNumber below))

-- what is answered after the single events, and after all
pub told-first : (d : DomainValue) (events : List Event) (found : Option Breach) → TellsBreach d events found
    → IfSome found (λ b. IsFirstBreach d events b)
told-first d events None told = tt
told-first d events (Some b) told = first-single d events b told

pub told-none : (d : DomainValue) (events : List Event) (found : Option Breach) → TellsBreach d events found
    → is_some found ≡ true → (found ≡ None) ↔ IsValidAndTimed d events
told-none d events None told there = absurd (false≢true there)
told-none d events (Some b) told there = ((λ none. absurd (cc none)), (λ good. absurd (not-single d events b told good)))

pub told-kept : (d : DomainValue) (events : List Event) (found : Option Breach) → TellsBreach d events found
    → is_some found ≡ false → KeepRules d events (length events)
told-kept d events None told away = told
told-kept d events (Some b) told away = absurd (false≢true (sym away))

pub last-first : (d : DomainValue) (events : List Event) (found : Option Breach) → KeepRules d events (length events)
    → TellsUnfinished d events found → IfSome found (λ b. IsFirstBreach d events b)
last-first d events None keep told = tt
last-first d events (Some b) keep told = first-last d events b keep told

pub last-none : (d : DomainValue) (events : List Event) (found : Option Breach) → KeepRules d events (length events)
    → TellsUnfinished d events found → (found ≡ None) ↔ IsValidAndTimed d events
last-none d events None keep told = ((λ _. sound d events keep told), (λ _. refl))
last-none d events (Some b) keep told = ((λ none. absurd (cc none)), (λ good. absurd (not-last d events b told good)))
