-- How long packets were on their whole way, by the clocks where they enter the network and where they leave it.
use Rattle.std.proofs.Common.{◌≡◌, ◌∙◌, ℕ, zero, suc, ◌+◌, ◌-◌, ◌*◌, ◌<◌, ◌≤◌, Bool, true, false, cond, eqb, ◌&&◌, List, [], ◌∷◌, length, refl, sym, ap, arith, inl, inr}
use Rattle.std.specs.Prelude.{Contains, sum_by, count_by, not, pos, ◌-ℤ◌, All}
use Rattle.std.specs.List.{list_any, range_with_len}
use Rattle.std.proofs.lemmas.Bool.{false≢true, cases_Bool}
use Rattle.std.proofs.lemmas.Int.{ints}
use Rattle.std.proofs.lemmas.List.Elements.{All-contains}
use Rattle.std.proofs.lemmas.List.Sums.{sum_by-cons}
use Rattle.am_clock.specs.Times.{Times}
use Rattle.am_domain.specs.declared.link.Edge.{Edge}
use Rattle.am_domain.specs.Network.{has_links_in, has_links_out}
use Rattle.am_domain.specs.Domains.{DomainValue}
use Rattle.am_graph.specs.Graphs.{start_of, end_of}
use Rattle.am_world.specs.declared.event.Event.{Event}
use Rattle.am_world.specs.declared.event.Event.TheVariants.{Send, Hop, Lost}
use Rattle.am_world.specs.Events.{event_packet, event_time, event_reading, events_of}
use Rattle.am_world.specs.Worlds.{Travels, IsJourney, AreJourneys, IsNear, IsOnTime}
use Rattle.am_world.specs.Passes.{passes, passes_sent}
use Rattle.am_world.specs.Delays.{time_on_way, total_on_way}
use Rattle.am_world.proofs.SumLemmas.{weigh, weigh-one, sum-both, from-filter}
use Rattle.am_world.proofs.JourneyLemmas.{IsOfSends, travels-unsent}
use Rattle.am_world.proofs.ConservationLemmas.{packet_end, packet-by-packet, weigh-and, or-none}
use Rattle.am_world.proofs.DelayLemmas.{sum-le, signed-apart, weigh-none}

-- packets enter at the first nodes alone, and leave at the second
pub record AreOuter (d : DomainValue) (entries exits : ℕ → Bool) : Type 0 where
  pub enters : (node : ℕ) → node < length d.nodes → has_links_in d.links node ≡ false → entries node ≡ true
  pub inside : (link : ℕ) → link < length d.links → entries (end_of d.links link) ≡ false
  pub goes_on : (link : ℕ) → link < length d.links → exits (start_of d.links link) ≡ false
  pub leaves : (link : ℕ) → link < length d.links → exits (end_of d.links link) ≡ not (has_links_out d.links (end_of d.links link))

-- where sums are equal, and no term is greater than its other, the terms are equal
sum-tight : {X : Type 0} (f g : X → ℕ) (xs : List X) → ((x : X) → Contains xs x → f x ≤ g x) → sum_by f xs ≡ sum_by g xs
    → (x : X) → Contains xs x → f x ≡ g x
sum-tight f g [] each same x at = absurd (omega (arith, at.1))
sum-tight f g (y ∷ ys) each same x (zero, below, here) =
    let first : f y ≤ g y = each y (0, omega arith, refl) in
    let rest = sum-le f g ys (λ z h. each z (suc h.0, omega (arith, h.1), h.2)) in
    let both : f y ≡ g y = omega (arith, sum_by-cons f y ys, sum_by-cons g y ys, first, rest, same) in
    sym (ap f here) ∙ both ∙ ap g here
sum-tight f g (y ∷ ys) each same x (suc k, below, here) =
    let first : f y ≤ g y = each y (0, omega arith, refl) in
    let rest = sum-le f g ys (λ z h. each z (suc h.0, omega (arith, h.1), h.2)) in
    let less : sum_by f ys ≡ sum_by g ys = omega (arith, sum_by-cons f y ys, sum_by-cons g y ys, first, rest, same) in
    sum-tight f g ys (λ z h. each z (suc h.0, omega (arith, h.1), h.2)) less x (k, omega (arith, below), here)

-- the readings of passes differ from their times by at most half the skew at each
record AreNear (t : Times) (test : Event → Bool) (es : List Event) : Type 0 where
  above : 2 * weigh event_reading test es ≤ 2 * weigh event_time test es + weigh (λ _. t.skew) test es
  below : 2 * weigh event_time test es ≤ 2 * weigh event_reading test es + weigh (λ _. t.skew) test es

passes-near : (t : Times) (links : List Edge) (here : ℕ → Bool) (es : List Event) → ((x : Event) → Contains es x → IsOnTime t x)
    → AreNear t (passes links here) es
passes-near t links here [] each = record { above = omega arith; below = omega arith }
passes-near t links here (e ∷ es) each =
    let rest = passes-near t links here es (λ x c. each x (suc c.0, omega (arith, c.1), c.2)) in
    let reading = sum_by-cons (λ x. cond (passes links here x) (event_reading x) 0) e es in
    let time = sum_by-cons (λ x. cond (passes links here x) (event_time x) 0) e es in
    let skew = sum_by-cons (λ x. cond (passes links here x) t.skew 0) e es in
    let one = near e (each e (0, omega arith, refl)) in
    record {
      above = omega (arith, rest.above, reading, time, skew, one.0);
      below = omega (arith, rest.below, reading, time, skew, one.1);
    }
  where
    timed : (b : Bool) (time reading : ℕ) → IsNear t time reading
        → (2 * cond b reading 0 ≤ 2 * cond b time 0 + cond b t.skew 0)
        × (2 * cond b time 0 ≤ 2 * cond b reading 0 + cond b t.skew 0)
    timed false time reading near' = (omega arith, omega arith)
    timed true time reading near' = (omega (arith, near'.ahead), omega (arith, near'.behind))

    near : (x : Event) → IsOnTime t x
        → (2 * cond (passes links here x) (event_reading x) 0
        ≤ 2 * cond (passes links here x) (event_time x) 0 + cond (passes links here x) t.skew 0)
        × (2 * cond (passes links here x) (event_time x) 0
        ≤ 2 * cond (passes links here x) (event_reading x) 0 + cond (passes links here x) t.skew 0)
    near (Send p f v time reading delay) on = timed (here v) time reading on
    near (Hop p link time reading) on = timed (here (end_of links link)) time reading on
    near (Lost p) on = (omega arith, omega arith)

-- the time at which a packet with these events was sent
abbrev pub sent_at : List Event → ℕ
sent_at [] = 0
sent_at (e ∷ es) = event_time e

module _ (d : DomainValue) (entries exits : ℕ → Bool) (outer : AreOuter d entries exits)
    (so : Event → Bool) (alone : IsOfSends so) where
  -- from an exit a packet does not hop, and so passes at most one
  none-after : (v : ℕ) (es : List Event) → Travels d.links v es → exits v ≡ true → count_by (passes d.links exits) es ≡ 0
  none-after v [] t out = refl
  none-after v (Send p f w time reading delay ∷ es) t out = absurd t
  none-after v (Hop p link time reading ∷ es) t out =
      absurd (false≢true (sym (outer.goes_on link t.0) ∙ ap exits t.1 ∙ out))
  none-after v (Lost p ∷ es) t out =
      let none : count_by (passes d.links exits) es ≡ 0 = ap (count_by (passes d.links exits)) t in
      omega (arith, sum_by-cons (λ x. cond (passes d.links exits x) 1 0) (Lost p) es, none)

  once : (v : ℕ) (es : List Event) → Travels d.links v es
      → cond (exits v) 1 0 + count_by (passes d.links exits) es ≤ 1
  once v es t = elim (cases_Bool (exits v)) [
    | inl out ↦ rw out (omega (arith, none-after v es t out))
    | inr on ↦ rw on (omega (arith, later v es t))
  ]
    where
      later : (v : ℕ) (es : List Event) → Travels d.links v es → count_by (passes d.links exits) es ≤ 1
      later v [] t = omega arith
      later v (Send p f w time reading delay ∷ es) t = absurd t
      later v (Hop p link time reading ∷ es) t =
          let more = sum_by-cons (λ x. cond (passes d.links exits x) 1 0) (Hop p link time reading) es in
          elim (cases_Bool (exits (end_of d.links link))) [
            | inl out ↦
                let first : cond {A = ℕ} (exits (end_of d.links link)) 1 0 ≡ 1 = rw out refl in
                omega (arith, more, first, none-after (end_of d.links link) es t.2 out)
            | inr on ↦
                let first : cond {A = ℕ} (exits (end_of d.links link)) 1 0 ≡ 0 = rw on refl in
                omega (arith, more, first, later (end_of d.links link) es t.2)
          ]
      later v (Lost p ∷ es) t =
          let none : count_by (passes d.links exits) es ≡ 0 = ap (count_by (passes d.links exits)) t in
          omega (arith, sum_by-cons (λ x. cond (passes d.links exits x) 1 0) (Lost p) es, none)

  -- a packet that travels on enters nowhere
  enters-no-more : (weight : Event → ℕ) (v : ℕ) (es : List Event) → Travels d.links v es → weigh weight (passes d.links entries) es ≡ 0
  enters-no-more weight v [] t = refl
  enters-no-more weight v (Send p f w time reading delay ∷ es) t = absurd t
  enters-no-more weight v (Hop p link time reading ∷ es) t =
      let more = sum_by-cons (λ x. cond (passes d.links entries x) (weight x) 0) (Hop p link time reading) es in
      more ∙ rw (outer.inside link t.0) (omega (arith, enters-no-more weight (end_of d.links link) es t.2))
  enters-no-more weight v (Lost p ∷ es) t =
      let none : weigh weight (passes d.links entries) es ≡ 0 = ap (weigh weight (passes d.links entries)) t in
      omega (arith, sum_by-cons (λ x. cond (passes d.links entries x) (weight x) 0) (Lost p) es, none)

  -- its time on the way is the difference of two weights
  way-is : (sent v : ℕ) (es : List Event) → Travels d.links v es
      → time_on_way d.links sent es
      ≡ pos (weigh event_time (passes d.links exits) es) -ℤ pos (weigh (λ _. sent) (passes d.links exits) es)
  way-is sent v [] t = omega (arith, ints)
  way-is sent v (Send p f w time reading delay ∷ es) t = absurd t
  way-is sent v (Hop p link time reading ∷ es) t =
      let rest = way-is sent (end_of d.links link) es t.2 in
      let times = sum_by-cons (λ x. cond (passes d.links exits x) (event_time x) 0) (Hop p link time reading) es in
      let starts = sum_by-cons (λ x. cond (passes d.links exits x) sent 0) (Hop p link time reading) es in
      let leaves = outer.leaves link t.0 in
      elim (cases_Bool (has_links_out d.links (end_of d.links link))) [
        | inl on ↦
            let stays : exits (end_of d.links link) ≡ false = leaves ∙ ap not on in
            rw (on, times, starts, stays) (omega (arith, ints, rest))
        | inr out ↦
            let goes : exits (end_of d.links link) ≡ true = leaves ∙ ap not out in
            rw (out, times, starts, goes) (omega (arith, ints, rest))
      ]
  way-is sent v (Lost p ∷ es) t =
      ap (time_on_way d.links sent) t
      ∙ omega (
        arith,
        ints,
        sum_by-cons (λ x. cond (passes d.links exits x) (event_time x) 0) (Lost p) es,
        sum_by-cons (λ x. cond (passes d.links exits x) sent 0) (Lost p) es,
        ap (weigh event_time (passes d.links exits)) t,
        ap (weigh (λ _. sent) (passes d.links exits)) t,
      )

  -- what passes a side, of the packets that are sent so
  abbrev pub side_at : (ℕ → Bool) → (Event → ℕ) → List Event → Event → ℕ
  side_at side weight es e = cond (passes d.links side e && list_any so es) (weight e) 0

  -- the times at which they leave, and those at which they were sent
  abbrev pub left_at : List Event → Event → ℕ
  left_at es e = cond (so e) (weigh event_time (passes d.links exits) es) 0

  abbrev pub began_at : List Event → Event → ℕ
  began_at es e = cond (so e) (weigh (λ _. sent_at es) (passes d.links exits) es) 0

  -- of one packet, no more leaves than enters; and where as much does, readings differ as times do, but for the skew
  record IsWay (es : List Event) : Type 0 where
    few : sum_by (side_at exits (λ _. 1) es) es ≤ sum_by (side_at entries (λ _. 1) es) es
    above : sum_by (side_at exits (λ _. 1) es) es ≡ sum_by (side_at entries (λ _. 1) es) es
        → sum_by (side_at exits event_reading es) es + sum_by (began_at es) es
        ≤ sum_by (side_at entries event_reading es) es + sum_by (left_at es) es + sum_by (side_at exits (λ _. d.times.skew) es) es
    below : sum_by (side_at exits (λ _. 1) es) es ≡ sum_by (side_at entries (λ _. 1) es) es
        → sum_by (side_at entries event_reading es) es + sum_by (left_at es) es
        ≤ sum_by (side_at exits event_reading es) es + sum_by (began_at es) es + sum_by (side_at exits (λ _. d.times.skew) es) es

  journey-way : (es : List Event) → IsJourney d es → ((x : Event) → Contains es x → IsOnTime d.times x) → IsWay es
  journey-way [] j each = record { few = omega arith; above = λ _. omega arith; below = λ _. omega arith }
  journey-way (Hop p link time reading ∷ es) j each = absurd j
  journey-way (Lost p ∷ es) j each = absurd j
  journey-way (Send p f v time reading delay ∷ es) j each =
      let s = Send p f v time reading delay in
      let all = s ∷ es in
      let sent : list_any so all ≡ so s
      = or-none (so s) (list_any so es) (travels-unsent so alone d.links v es j.3) in
      let near : IsNear d.times time reading = each s (0, omega arith, refl) in
      let close = passes-near d.times d.links exits all each in
      let N = weigh (λ _. 1) (passes d.links exits) all in
      let R = weigh event_reading (passes d.links exits) all in
      let T = weigh event_time (passes d.links exits) all in
      let K = weigh (λ _. d.times.skew) (passes d.links exits) all in
      let B = weigh (λ _. time) (passes d.links exits) all in
      let one : weigh (λ _. 1) (passes d.links entries) all ≡ 1 = entered (λ _. 1) v es s j.3 (outer.enters v j.1 j.2) in
      let read : weigh event_reading (passes d.links entries) all ≡ reading
      = entered event_reading v es s j.3 (outer.enters v j.1 j.2) in
      let most : N ≤ 1
      = omega (arith, sum_by-cons (λ x. cond (passes d.links exits x) 1 0) s es, once v es j.3) in
      let skews : K ≡ N * d.times.skew = weigh-one d.times.skew (passes d.links exits) all in
      let begins : B ≡ N * time = weigh-one time (passes d.links exits) all in
      let side = λ (at : ℕ → Bool) (w : Event → ℕ). weigh-and w (passes d.links at) (list_any so all) all in
      let left : sum_by (left_at all) all ≡ cond (so s) T 0
      = sum_by-cons (left_at all) s es ∙ omega (arith, weigh-none so alone T d.links v es j.3) in
      let began : sum_by (began_at all) all ≡ cond (so s) B 0
      = sum_by-cons (began_at all) s es ∙ omega (arith, weigh-none so alone B d.links v es j.3) in
      let n : sum_by (side_at exits (λ _. 1) all) all ≡ cond (so s) N 0 = side exits (λ _. 1) ∙ rw sent refl in
      let m : sum_by (side_at entries (λ _. 1) all) all ≡ cond (so s) 1 0 = side entries (λ _. 1) ∙ rw (sent, one) refl in
      let out : sum_by (side_at exits event_reading all) all ≡ cond (so s) R 0 = side exits event_reading ∙ rw sent refl in
      let in' : sum_by (side_at entries event_reading all) all ≡ cond (so s) reading 0
      = side entries event_reading ∙ rw (sent, read) refl in
      let wide : sum_by (side_at exits (λ _. d.times.skew) all) all ≡ cond (so s) K 0
      = side exits (λ _. d.times.skew) ∙ rw sent refl in
      let ends = way-ends (so s) N R T K B d.times.skew time reading most skews begins near.behind near.ahead close.above close.below in
      record {
        few = omega (arith, n, m, few-ends (so s) N most);
        above = λ same. omega (arith, out, in', left, began, wide, (ends (omega (arith, same, n, m))).0);
        below = λ same. omega (arith, out, in', left, began, wide, (ends (omega (arith, same, n, m))).1);
      }
    where
      entered : (w : Event → ℕ) (v : ℕ) (es : List Event) (x : Event) → Travels d.links v es
          → passes d.links entries x ≡ true → weigh w (passes d.links entries) (x ∷ es) ≡ w x
      entered w v es x t here =
          let none = enters-no-more w v es t in
          sum_by-cons (λ y. cond (passes d.links entries y) (w y) 0) x es ∙ rw here (omega (arith, none))

      few-ends : (b : Bool) (N : ℕ) → N ≤ 1 → cond b N 0 ≤ cond b 1 0
      few-ends false N most = omega arith
      few-ends true N most = most

      way-ends : (b : Bool) (N R T K B skew time reading : ℕ) → N ≤ 1 → K ≡ N * skew → B ≡ N * time
          → 2 * (time - reading) ≤ skew → 2 * (reading - time) ≤ skew → 2 * R ≤ 2 * T + K → 2 * T ≤ 2 * R + K
          → cond b N 0 ≡ cond b 1 0
          → (cond b R 0 + cond b B 0 ≤ cond b reading 0 + cond b T 0 + cond b K 0)
          × (cond b reading 0 + cond b T 0 ≤ cond b R 0 + cond b B 0 + cond b K 0)
      way-ends false N R T K B skew time reading most skews begins behind ahead up down same = (omega arith, omega arith)
      way-ends true N R T K B skew time reading most skews begins behind ahead up down same =
          let k : K ≡ skew = skews ∙ ap (λ n. n * skew) same ∙ omega arith in
          let b : B ≡ time = begins ∙ ap (λ n. n * time) same ∙ omega arith in
          (omega arith, omega arith)

  -- and of all packets, where as many leave as enter
  pub record AreWays (events : List Event) : Type 0 where
    pub above : sum_by (λ e. cond (passes_sent d.links exits so events e) (event_reading e) 0) events
        + sum_by (λ e. began_at (events_of events (event_packet e)) e) events
        ≤ sum_by (λ e. cond (passes_sent d.links entries so events e) (event_reading e) 0) events
        + sum_by (λ e. left_at (events_of events (event_packet e)) e) events
        + sum_by (λ e. cond (passes_sent d.links exits so events e) d.times.skew 0) events
    pub below : sum_by (λ e. cond (passes_sent d.links entries so events e) (event_reading e) 0) events
        + sum_by (λ e. left_at (events_of events (event_packet e)) e) events
        ≤ sum_by (λ e. cond (passes_sent d.links exits so events e) (event_reading e) 0) events
        + sum_by (λ e. began_at (events_of events (event_packet e)) e) events
        + sum_by (λ e. cond (passes_sent d.links exits so events e) d.times.skew 0) events

  pub all-ways : (events : List Event) → AreJourneys d events → All (IsOnTime d.times) events
      → sum_by (λ e. cond (passes_sent d.links entries so events e) 1 0) events
      ≡ sum_by (λ e. cond (passes_sent d.links exits so events e) 1 0) events
      → AreWays events
  all-ways events journeys on even =
      let packets = range_with_len 0 (packet_end events) in
      let of = λ (p : ℕ). events_of events p in
      let N = λ (p : ℕ). sum_by (side_at exits (λ _. 1) (of p)) (of p) in
      let M = λ (p : ℕ). sum_by (side_at entries (λ _. 1) (of p)) (of p) in
      let E = λ (p : ℕ). sum_by (side_at exits event_reading (of p)) (of p) in
      let S = λ (p : ℕ). sum_by (side_at entries event_reading (of p)) (of p) in
      let A = λ (p : ℕ). sum_by (side_at exits (λ _. d.times.skew) (of p)) (of p) in
      let X = λ (p : ℕ). sum_by (left_at (of p)) (of p) in
      let Y = λ (p : ℕ). sum_by (began_at (of p)) (of p) in
      let went = packet-by-packet (side_at exits event_reading) events in
      let came = packet-by-packet (side_at entries event_reading) events in
      let skews = packet-by-packet (side_at exits (λ _. d.times.skew)) events in
      let left = packet-by-packet left_at events in
      let began = packet-by-packet began_at events in
      let counts : sum_by N packets ≡ sum_by M packets
      = sym (packet-by-packet (side_at exits (λ _. 1)) events) ∙ sym even ∙ packet-by-packet (side_at entries (λ _. 1)) events in
      let each = λ (p : ℕ). journey-way (of p) (journeys p) (λ x c.
      All-contains (IsOnTime d.times) events x on (from-filter (λ e. eqb (event_packet e) p) events x c).0) in
      let tight = sum-tight N M packets (λ p _. (each p).few) counts in
      let above = sum-le (λ p. E p + Y p) (λ p. S p + X p + A p) packets (λ p c. (each p).above (tight p c)) in
      let below = sum-le (λ p. S p + X p) (λ p. E p + Y p + A p) packets (λ p c. (each p).below (tight p c)) in
      let ey = sum-both E Y packets in
      let sx = sum-both S X packets in
      let sxa = sum-both (λ p. S p + X p) A packets in
      let eya = sum-both (λ p. E p + Y p) A packets in
      record {
        above = omega (arith, went, came, skews, left, began, above, ey, sx, sxa, eya);
        below = omega (arith, went, came, skews, left, began, below, ey, sx, sxa, eya);
      }

  -- the time on the way of all packets is the difference of their times
  pub total-way-is : (events : List Event) → AreJourneys d events
      → total_on_way d.links so events
      ≡ pos (sum_by (λ e. left_at (events_of events (event_packet e)) e) events)
      -ℤ pos (sum_by (λ e. began_at (events_of events (event_packet e)) e) events)
  total-way-is events journeys =
      signed-apart (λ e. left_at (events_of events (event_packet e)) e) (λ e. began_at (events_of events (event_packet e)) e)
      (λ e. cond (so e) (time_on_way d.links 0 (events_of events (event_packet e))) (pos 0)) events (pos 0)
      (λ e. one (so e) (events_of events (event_packet e)) (journeys (event_packet e)))
      ∙ omega (arith, ints)
    where
      one : (b : Bool) (es : List Event) → IsJourney d es
          → cond b (time_on_way d.links 0 es) (pos 0)
          ≡ pos (cond b (weigh event_time (passes d.links exits) es) 0)
          -ℤ pos (cond b (weigh (λ _. sent_at es) (passes d.links exits) es) 0)
      one false es j = omega (arith, ints)
      one true [] j = omega (arith, ints)
      one true (Hop p link time reading ∷ es) j = absurd j
      one true (Lost p ∷ es) j = absurd j
      one true (Send p f v time reading delay ∷ es) j =
          let s = Send p f v time reading delay in
          way-is time v es j.3
          ∙ omega (
            arith,
            ints,
            sum_by-cons (λ x. cond (passes d.links exits x) (event_time x) 0) s es,
            sum_by-cons (λ x. cond (passes d.links exits x) time 0) s es,
          )
