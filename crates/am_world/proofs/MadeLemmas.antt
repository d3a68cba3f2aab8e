-- A world that is made packet by packet is valid and timed.
use Rattle.std.proofs.Common.{◌≡◌, ◌∙◌, ◌⊎◌, ℕ, zero, suc, ◌+◌, ◌*◌, ◌<◌, ◌≤◌, true, false, eqb, List, [], ◌∷◌, ◌++◌, length, length-append, get_or, refl, sym, ap, subst, arith, inl, inr}
use Rattle.std.specs.Prelude.{All}
use Rattle.std.proofs.lemmas.Bool.{cases_eq, eq-eqb, false_from_ne_true, eqb-true}
use Rattle.std.proofs.lemmas.List.{append-nil}
use Rattle.std.proofs.lemmas.List.Elements.{All-nil, All-head, All-tail, All-append, filter-append}
use Rattle.am_domain.specs.Domains.{DomainValue, IsLawful}
use Rattle.am_world.specs.declared.event.Event.{Event}
use Rattle.am_world.specs.declared.event.Event.TheVariants.{Send, Hop, Lost}
use Rattle.am_world.specs.Events.{event_packet, events_of}
use Rattle.am_world.specs.Worlds.{IsJourney, IsOver, IsValid, IsOnTime, IsInTime, IsTimed}
use Rattle.am_world.specs.Breaches.{IsValidAndTimed}
use Rattle.am_world.specs.Generating.{entries, ArePackets, IsMade}
use Rattle.am_world.proofs.GoingLemmas.{IsWhole, packet-whole}

-- a packet without events
of-none : (events : List Event) (p : ℕ) → All (λ e. event_packet e ≡ p → ⊥) events → events_of events p ≡ []
of-none [] p none = refl
of-none (e ∷ es) p none =
    let away : eqb (event_packet e) p ≡ false
    = false_from_ne_true (eqb (event_packet e) p) (λ h.
    All-head (λ x. event_packet x ≡ p → ⊥) e es none (eqb-true (event_packet e) p h)) in
    rw away (of-none es p (All-tail (λ x. event_packet x ≡ p → ⊥) e es none))

-- a packet that all events are of
of-all : (events : List Event) (p : ℕ) → All (λ e. event_packet e ≡ p) events → events_of events p ≡ events
of-all [] p own = refl
of-all (e ∷ es) p own =
    let here : eqb (event_packet e) p ≡ true = eq-eqb (event_packet e) p (All-head (λ x. event_packet x ≡ p) e es own) in
    rw here (ap (λ rest. e ∷ rest) (of-all es p (All-tail (λ x. event_packet x ≡ p) e es own)))

-- events of different packets say nothing of each other
apart-in-time : (d : DomainValue) (s e : Event) → (event_packet s ≡ event_packet e → ⊥) → IsInTime d.times s e
apart-in-time d (Send p f v time reading delay) (Send q g w next read bit) apart = tt
apart-in-time d (Send p f v time reading delay) (Hop q link next read) apart = λ same. absurd (apart same)
apart-in-time d (Send p f v time reading delay) (Lost q) apart = tt
apart-in-time d (Hop p link time reading) e apart = tt
apart-in-time d (Lost p) e apart = tt

-- the first packets are whole, and no others are there
pub record AreWhole (d : DomainValue) (i : ℕ) (events : List Event) : Type 0 where
  pub valid : IsValid d events
  pub timed : IsTimed d.times events
  pub below : All (λ e. event_packet e < i) events
  pub short : length events ≤ 18 * i

pub none-whole : (d : DomainValue) → AreWhole d 0 []
none-whole d = record {
  valid = record { journeys = λ p. tt; over = λ p node kept at. absurd (cc at) };
  timed = record { clocks = All-nil (IsOnTime d.times); delays = All-nil (λ s. All (IsInTime d.times s) []) };
  below = All-nil (λ e. event_packet e < 0);
  short = omega arith;
}

-- where a packet does not occur, and its events come after, the world stays valid and timed
pub more-whole : (d : DomainValue) (i : ℕ) (earlier own : List Event) → AreWhole d i earlier → IsWhole d i own
    → AreWhole d (i + 1) (earlier ++ own)
more-whole d i earlier own before whole = record {
  valid = record {
    journeys = λ p. elim (cases_eq p i) [
      | inl same ↦ subst (IsJourney d) (sym (own-events p same)) whole.journey
      | inr other ↦ subst (IsJourney d) (sym (old-events p other)) (before.valid.journeys p)
    ];
    over = λ p. elim (cases_eq p i) [
      | inl same ↦ subst (IsOver d.links) (sym (own-events p same)) whole.over
      | inr other ↦ subst (IsOver d.links) (sym (old-events p other)) (before.valid.over p)
    ];
  };
  timed = record {
    clocks = All-append (IsOnTime d.times) earlier own before.timed.clocks whole.clocks;
    delays = All-append (λ s. All (IsInTime d.times s) (earlier ++ own)) earlier own
        (λ k s within. All-append (IsInTime d.times (get_or earlier k s)) earlier own
        (before.timed.delays k s within)
        (λ j e inside. apart-in-time d (get_or earlier k s) (get_or own j e) (λ same.
        let low = before.below k s within in
        let high = whole.own j e inside in
        omega (arith, low, high, same))))
        (λ k s within. All-append (IsInTime d.times (get_or own k s)) earlier own
        (λ j e inside. apart-in-time d (get_or own k s) (get_or earlier j e) (λ same.
        let low = before.below j e inside in
        let high = whole.own k s within in
        omega (arith, low, high, same)))
        (whole.delays k s within));
  };
  below = All-append (λ e. event_packet e < i + 1) earlier own
      (λ k e within. let low = before.below k e within in omega (arith, low))
      (λ k e within. let is = whole.own k e within in omega (arith, is));
  short =
      let long = length-append earlier own in
      let first = before.short in
      let last = whole.short in
      omega (arith, long, first, last);
}
  where
    parts : (p : ℕ) → events_of (earlier ++ own) p ≡ events_of earlier p ++ events_of own p
    parts p = filter-append (λ e. eqb (event_packet e) p) earlier own

    own-events : (p : ℕ) → p ≡ i → events_of (earlier ++ own) p ≡ own
    own-events p same =
        let none : events_of earlier p ≡ []
        = of-none earlier p (λ k e within at. let low = before.below k e within in omega (arith, low, at, same)) in
        let all : events_of own p ≡ own
        = of-all own p (λ k e within. whole.own k e within ∙ sym same) in
        parts p ∙ ap (λ es. es ++ events_of own p) none ∙ all

    old-events : (p : ℕ) → (p ≡ i → ⊥) → events_of (earlier ++ own) p ≡ events_of earlier p
    old-events p other =
        let none : events_of own p ≡ []
        = of-none own p (λ k e within at. other (sym at ∙ whole.own k e within)) in
        parts p ∙ ap (λ es. events_of earlier p ++ es) none ∙ append-nil (events_of earlier p)

-- all packets, one after another
pub packets-whole : (d : DomainValue) (number packets i : ℕ) (events : List Event) (y : ℕ) → IsLawful d
    → 0 < length (entries d) → ArePackets d number packets i events y → AreWhole d i events
packets-whole d number packets zero events y lawful some made = subst (AreWhole d 0) (sym made.0) (none-whole d)
packets-whole d number packets (suc i) events y lawful some made =
    let before = packets-whole d number packets i made.earlier made.left lawful some made.made in
    let own = packet-whole d packets i made.earlier made.left made.more.own y lawful some made.more.so in
    let next : i + 1 ≡ suc i = omega arith in
    subst (λ n. AreWhole d n events) next
    (subst (AreWhole d (i + 1)) (sym made.more.all) (more-whole d i made.earlier made.more.own before own))

-- the world that a number makes has no breach, and few events
pub made-whole : (d : DomainValue) (number packets : ℕ) (events : List Event) → IsLawful d → IsMade d number packets events
    → IsValidAndTimed d events × (length events ≤ 18 * packets)
made-whole d number packets events lawful made = elim (cases_zero (length (entries d))) [
  | inl none ↦
      let empty : [] ≡ events = sym (made.without none) in
      let whole = none-whole d in (
        subst (IsValidAndTimed d) empty (record { valid = whole.valid; timed = whole.timed }),
        subst (λ es. length es ≤ 18 * packets) empty (omega arith),
      )
  | inr some ↦
      let all = made.among some in
      let whole = packets-whole d number packets packets events all.0 lawful some all.1 in
      (record { valid = whole.valid; timed = whole.timed }, whole.short)
]
  where
    cases_zero : (n : ℕ) → (n ≡ 0) ⊎ (0 < n)
    cases_zero zero = inl refl
    cases_zero (suc n) = inr (omega arith)

-- where there is an entry, the events of all packets are those of the world
pub some-made : (d : DomainValue) (number packets : ℕ) (events world : List Event) (into : List ℕ) → into ≡ entries d
    → 0 < length into → world ≡ events → (y : ℕ) × ArePackets d number packets packets events y
    → IsMade d number packets world
some-made d number packets events world into is some same made = record {
  without = λ none. let long = ap length is in absurd (omega (arith, none, some, long));
  among = λ _. (made.0, subst (λ es. ArePackets d number packets packets es made.0) (sym same) made.1);
}
