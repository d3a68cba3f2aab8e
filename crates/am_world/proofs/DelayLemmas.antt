-- How long the packets took over the links of a cluster, by the clocks of its sides.
use Rattle.std.proofs.Common.{◌≡◌, ◌∙◌, ℕ, suc, ◌+◌, ◌≤◌, Bool, true, false, cond, eqb, ◌&&◌, List, [], ◌∷◌, Some, refl, sym, ap, arith, inl, inr}
use Rattle.std.specs.Prelude.{Contains, sum_by, map, fold, not, ℤ, pos, ◌+ℤ◌, ◌-ℤ◌, All}
use Rattle.std.specs.List.{list_any, range_with_len}
use Rattle.std.proofs.lemmas.Bool.{cases_Bool}
use Rattle.std.proofs.lemmas.Int.{ints}
use Rattle.std.proofs.lemmas.List.Elements.{All-contains}
use Rattle.std.proofs.lemmas.List.Sums.{sum_by-cons}
use Rattle.am_clock.specs.Times.{Times}
use Rattle.am_domain.specs.declared.link.Edge.{Edge}
use Rattle.am_domain.specs.Network.{has_links_in}
use Rattle.am_domain.specs.Domains.{DomainValue}
use Rattle.am_graph.specs.Graphs.{end_of}
use Rattle.am_world.specs.declared.event.Event.{Event}
use Rattle.am_world.specs.declared.event.Event.TheVariants.{Send, Hop, Lost}
use Rattle.am_world.specs.Events.{event_packet, event_time, event_reading, events_of, is_lost, node_after}
use Rattle.am_world.specs.Worlds.{Travels, IsJourney, AreJourneys, IsNear, IsOnTime}
use Rattle.am_world.specs.Passes.{passes, passes_sent, is_sent}
use Rattle.am_world.specs.Drops.{is_at, is_dropped, is_waiting, dropped_at, waiting_at, hops_over}
use Rattle.am_world.specs.Delays.{time_over, total_over}
use Rattle.am_world.proofs.SumLemmas.{weigh, sum-both, item-le-sum, from-filter}
use Rattle.am_world.proofs.JourneyLemmas.{IsOfSends, AreSides, travels-unsent, last_pass, hop_sum, starts-on, ends-on, hops-are}
use Rattle.am_world.proofs.ConservationLemmas.{packet_end, packet-by-packet, weigh-and, or-none}

-- sums of terms of which none is greater
pub sum-le : {X : Type 0} (f g : X → ℕ) (xs : List X) → ((x : X) → Contains xs x → f x ≤ g x) → sum_by f xs ≤ sum_by g xs
sum-le f g [] each = omega arith
sum-le f g (x ∷ xs) each =
    let here : f x ≤ g x = each x (0, omega arith, refl) in
    let there = sum-le f g xs (λ y h. each y (suc h.0, omega (arith, h.1), h.2)) in
    omega (arith, sum_by-cons f x xs, sum_by-cons g x xs, here, there)

-- a sum of differences is the difference of the sums
pub signed-apart : (a b : Event → ℕ) (number : Event → ℤ) (xs : List Event) (z : ℤ)
    → ((x : Event) → number x ≡ pos (a x) -ℤ pos (b x))
    → fold ◌+ℤ◌ z (map number xs) ≡ z +ℤ (pos (sum_by a xs) -ℤ pos (sum_by b xs))
signed-apart a b number [] z each = omega (arith, ints)
signed-apart a b number (x ∷ xs) z each =
    let rest = signed-apart a b number xs (z +ℤ number x) each in
    rest ∙ omega (arith, ints, each x, sum_by-cons a x xs, sum_by-cons b x xs)

-- over the hops of a packet, its readings rise as its times do, but for the skew at each hop
record IsClose (t : Times) (inside : ℕ → Bool) (e : Event) (es : List Event) : Type 0 where
  above : hop_sum inside (λ _ hop. event_reading hop) e es + hop_sum inside (λ before _. event_time before) e es
      ≤ hop_sum inside (λ before _. event_reading before) e es + hop_sum inside (λ _ hop. event_time hop) e es
      + hop_sum inside (λ _ _. t.skew) e es
  below : hop_sum inside (λ before _. event_reading before) e es + hop_sum inside (λ _ hop. event_time hop) e es
      ≤ hop_sum inside (λ _ hop. event_reading hop) e es + hop_sum inside (λ before _. event_time before) e es
      + hop_sum inside (λ _ _. t.skew) e es

hops-close : (t : Times) (inside : ℕ → Bool) (links : List Edge) (node : ℕ) (e : Event) (es : List Event) → Travels links node es
    → IsNear t (event_time e) (event_reading e) → ((x : Event) → Contains es x → IsOnTime t x)
    → IsClose t inside e es
hops-close t inside links node e [] travels near each = record { above = omega arith; below = omega arith }
hops-close t inside links node e (Send p f v time reading delay ∷ es) travels near each = absurd travels
hops-close t inside links node e (Hop p link time reading ∷ es) travels near each =
    let h = Hop p link time reading in
    let here : IsNear t time reading = each h (0, omega arith, refl) in
    let rest = hops-close t inside links (end_of links link) h es travels.2 here
    (λ x c. each x (suc c.0, omega (arith, c.1), c.2)) in
    elim (cases_Bool (inside link)) [
      | inl in' ↦ record {
        above = rw in' (omega (arith, near.behind, near.ahead, here.behind, here.ahead, rest.above));
        below = rw in' (omega (arith, near.behind, near.ahead, here.behind, here.ahead, rest.below));
      }
      | inr out ↦ record {
        above = rw out (omega (arith, rest.above));
        below = rw out (omega (arith, rest.below));
      }
    ]
hops-close t inside links node e (Lost p ∷ es) travels near each =
    let none = λ (w : Event → Event → ℕ). ap (hop_sum inside w e) travels in
    record {
      above = omega (arith, none (λ _ hop. event_reading hop), none (λ before _. event_time before));
      below = omega (arith, none (λ before _. event_reading before), none (λ _ hop. event_time hop));
    }

-- the times of a packet's hops over links of a class, and those of the passes before them
pub hop_times : (ℕ → Bool) → List Event → ℕ
hop_times inside [] = 0
hop_times inside (e ∷ es) = hop_sum inside (λ _ hop. event_time hop) e es

pub times_before : (ℕ → Bool) → List Event → ℕ
times_before inside [] = 0
times_before inside (e ∷ es) = hop_sum inside (λ before _. event_time before) e es

-- of which the time over the links is the difference
time-over-is : (inside : ℕ → Bool) (links : List Edge) (node : ℕ) (e : Event) (es : List Event) → Travels links node es
    → time_over inside (event_time e) es
    ≡ pos (hop_sum inside (λ _ hop. event_time hop) e es) -ℤ pos (hop_sum inside (λ before _. event_time before) e es)
time-over-is inside links node e [] t = omega (arith, ints)
time-over-is inside links node e (Send p f v time reading delay ∷ es) t = absurd t
time-over-is inside links node e (Hop p link time reading ∷ es) t =
    let rest = time-over-is inside links (end_of links link) (Hop p link time reading) es t.2 in
    elim (cases_Bool (inside link)) [
      | inl in' ↦ rw in' (omega (arith, ints, rest))
      | inr out ↦ rw out (omega (arith, ints, rest))
    ]
time-over-is inside links node e (Lost p ∷ es) t =
    ap (time_over inside (event_time e)) t
    ∙ omega (arith, ints, ap (hop_sum inside (λ _ hop. event_time hop) e) t, ap (hop_sum inside (λ before _. event_time before) e) t)

-- of a packet that travels on, no event is sent so
pub weigh-none : (so : Event → Bool) → IsOfSends so → (n : ℕ) (links : List Edge) (node : ℕ) (es : List Event)
    → Travels links node es → sum_by (λ e. cond (so e) n 0) es ≡ 0
weigh-none so alone n links node [] t = refl
weigh-none so alone n links node (Send p f v time reading delay ∷ es) t = absurd t
weigh-none so alone n links node (Hop p link time reading ∷ es) t =
    sum_by-cons (λ e. cond (so e) n 0) (Hop p link time reading) es
    ∙ rw (alone.hops p link time reading) (omega (arith, weigh-none so alone n links (end_of links link) es t.2))
weigh-none so alone n links node (Lost p ∷ es) t =
    let none : sum_by (λ e. cond (so e) n 0) es ≡ 0 = ap (sum_by (λ e. cond (so e) n 0)) t in
    sum_by-cons (λ e. cond (so e) n 0) (Lost p) es ∙ rw (alone.losses p) (omega (arith, none))

-- what is close stays so where a packet waits or is not counted
closes-above : (sent at : Bool) (hr br ht bt skew last : ℕ) → hr + bt ≤ br + ht + skew
    → cond sent hr 0 + cond sent bt 0 ≤ cond sent (br + cond at last 0) 0 + cond sent ht 0 + cond sent skew 0
closes-above false at hr br ht bt skew last h = omega arith
closes-above true at hr br ht bt skew last h = omega arith

closes-below : (sent lost at : Bool) (hr br ht bt skew last : ℕ) → br + ht ≤ hr + bt + skew
    → cond {A = ℕ} (sent && (lost && at)) 1 0 ≡ 0 → cond {A = ℕ} (sent && (not lost && at)) 1 0 ≡ 0
    → cond sent (br + cond at last 0) 0 + cond sent ht 0 ≤ cond sent hr 0 + cond sent bt 0 + cond sent skew 0
closes-below false lost at hr br ht bt skew last h dropped waits = omega arith
closes-below true lost false hr br ht bt skew last h dropped waits = omega arith
closes-below true true true hr br ht bt skew last h dropped waits = absurd (omega arith)
closes-below true false true hr br ht bt skew last h dropped waits = absurd (omega arith)

module _ (d : DomainValue) (inside starts ends : ℕ → Bool) (sides : AreSides d.links inside starts ends)
    (entries : (node : ℕ) → has_links_in d.links node ≡ false → ends node ≡ false)
    (so : Event → Bool) (alone : IsOfSends so) where
  -- what passes the sides of the class, read and timed
  abbrev pub read_at : (ℕ → Bool) → List Event → Event → ℕ
  read_at side es e = cond (passes d.links side e && list_any so es) (event_reading e) 0

  abbrev pub skew_at : List Event → Event → ℕ
  skew_at es e = cond (hops_over inside e && list_any so es) d.times.skew 0

  abbrev pub hopped_at : List Event → Event → ℕ
  hopped_at es e = cond (so e) (hop_times inside es) 0

  abbrev pub before_at : List Event → Event → ℕ
  before_at es e = cond (so e) (times_before inside es) 0

  abbrev pub drop_at : List Event → Event → ℕ
  drop_at es e = cond (so e && is_dropped d.links starts es) 1 0

  abbrev pub wait_at : List Event → Event → ℕ
  wait_at es e = cond (so e && is_waiting d.links starts es) 1 0

  -- of one packet, the readings at the ends and at the starts differ as its times do, but for the skew at each hop
  record AreClose (es : List Event) : Type 0 where
    above : sum_by (read_at ends es) es + sum_by (before_at es) es
        ≤ sum_by (read_at starts es) es + sum_by (hopped_at es) es + sum_by (skew_at es) es
    below : sum_by (drop_at es) es ≡ 0 → sum_by (wait_at es) es ≡ 0
        → sum_by (read_at starts es) es + sum_by (hopped_at es) es
        ≤ sum_by (read_at ends es) es + sum_by (before_at es) es + sum_by (skew_at es) es

  journey-close : (es : List Event) → IsJourney d es → ((x : Event) → Contains es x → IsOnTime d.times x) → AreClose es
  unfolding hop_times times_before
  journey-close [] j each = record { above = omega arith; below = λ _ _. omega arith }
  journey-close (Hop p link time reading ∷ es) j each = absurd j
  journey-close (Lost p ∷ es) j each = absurd j
  journey-close (Send p f v time reading delay ∷ es) j each =
      let s = Send p f v time reading delay in
      let sent : list_any so (s ∷ es) ≡ so s
      = or-none (so s) (list_any so es) (travels-unsent so alone d.links v es j.3) in
      let near : IsNear d.times time reading = each s (0, omega arith, refl) in
      let close = hops-close d.times inside d.links v s es j.3 near
      (λ x c. each x (suc c.0, omega (arith, c.1), c.2)) in
      let at = is_at starts (node_after d.links (Some v) es) in
      let last = event_reading (last_pass s es) in
      let hr = hop_sum inside (λ _ hop. event_reading hop) s es in
      let br = hop_sum inside (λ before _. event_reading before) s es in
      let ht = hop_sum inside (λ _ hop. event_time hop) s es in
      let bt = hop_sum inside (λ before _. event_time before) s es in
      let skew = hop_sum inside (λ _ _. d.times.skew) s es in
      let entry : ends v ≡ false = entries v j.2 in
      let ends_more : weigh event_reading (passes d.links ends) (s ∷ es) ≡ hr
      = sum_by-cons (λ e. cond (passes d.links ends e) (event_reading e) 0) s es
      ∙ rw entry (omega (arith, ends-on d.links inside starts ends sides event_reading v s es j.3)) in
      let starts_more : weigh event_reading (passes d.links starts) (s ∷ es) ≡ br + cond at last 0
      = sum_by-cons (λ e. cond (passes d.links starts e) (event_reading e) 0) s es
      ∙ starts-on d.links inside starts ends sides event_reading v s es j.3 in
      let skew_more : weigh (λ _. d.times.skew) (hops_over inside) (s ∷ es) ≡ skew
      = sum_by-cons (λ e. cond (hops_over inside e) d.times.skew 0) s es
      ∙ omega (arith, hops-are inside d.times.skew d.links v s es j.3) in
      let left : sum_by (read_at ends (s ∷ es)) (s ∷ es) ≡ cond (so s) hr 0
      = weigh-and event_reading (passes d.links ends) (list_any so (s ∷ es)) (s ∷ es) ∙ rw (sent, ends_more) refl in
      let came : sum_by (read_at starts (s ∷ es)) (s ∷ es) ≡ cond (so s) (br + cond at last 0) 0
      = weigh-and event_reading (passes d.links starts) (list_any so (s ∷ es)) (s ∷ es) ∙ rw (sent, starts_more) refl in
      let skews : sum_by (skew_at (s ∷ es)) (s ∷ es) ≡ cond (so s) skew 0
      = weigh-and (λ _. d.times.skew) (hops_over inside) (list_any so (s ∷ es)) (s ∷ es) ∙ rw (sent, skew_more) refl in
      let hopped : sum_by (hopped_at (s ∷ es)) (s ∷ es) ≡ cond (so s) ht 0
      = sum_by-cons (hopped_at (s ∷ es)) s es ∙ omega (arith, weigh-none so alone ht d.links v es j.3) in
      let before : sum_by (before_at (s ∷ es)) (s ∷ es) ≡ cond (so s) bt 0
      = sum_by-cons (before_at (s ∷ es)) s es ∙ omega (arith, weigh-none so alone bt d.links v es j.3) in
      record {
        above =
            omega (arith, left, came, skews, hopped, before, closes-above (so s) at hr br ht bt skew last close.above);
        below = λ no_drop no_wait.
            let dropped : cond {A = ℕ} (so s && (list_any is_lost es && at)) 1 0 ≡ 0
            = omega (arith, no_drop, sum_by-cons (drop_at (s ∷ es)) s es) in
            let waits : cond {A = ℕ} (so s && (not (list_any is_lost es) && at)) 1 0 ≡ 0
            = omega (arith, no_wait, sum_by-cons (wait_at (s ∷ es)) s es) in
            omega (
              arith,
              left,
              came,
              skews,
              hopped,
              before,
              closes-below (so s) (list_any is_lost es) at hr br ht bt skew last close.below dropped waits,
            );
      }

  -- and of all packets, where none is dropped and none waits
  pub record AreAllClose (events : List Event) : Type 0 where
    pub above : sum_by (λ e. cond (passes_sent d.links ends so events e) (event_reading e) 0) events
        + sum_by (λ e. before_at (events_of events (event_packet e)) e) events
        ≤ sum_by (λ e. cond (passes_sent d.links starts so events e) (event_reading e) 0) events
        + sum_by (λ e. hopped_at (events_of events (event_packet e)) e) events
        + sum_by (λ e. cond (hops_over inside e && is_sent so events e) d.times.skew 0) events
    pub below : sum_by (λ e. cond (passes_sent d.links starts so events e) (event_reading e) 0) events
        + sum_by (λ e. hopped_at (events_of events (event_packet e)) e) events
        ≤ sum_by (λ e. cond (passes_sent d.links ends so events e) (event_reading e) 0) events
        + sum_by (λ e. before_at (events_of events (event_packet e)) e) events
        + sum_by (λ e. cond (hops_over inside e && is_sent so events e) d.times.skew 0) events

  pub all-close : (events : List Event) → AreJourneys d events → All (IsOnTime d.times) events
      → dropped_at d.links starts so events ≡ 0 → waiting_at d.links starts so events ≡ 0 → AreAllClose events
  all-close events journeys on no_drop no_wait =
      let packets = range_with_len 0 (packet_end events) in
      let of = λ (p : ℕ). events_of events p in
      let E = λ (p : ℕ). sum_by (read_at ends (of p)) (of p) in
      let S = λ (p : ℕ). sum_by (read_at starts (of p)) (of p) in
      let A = λ (p : ℕ). sum_by (skew_at (of p)) (of p) in
      let X = λ (p : ℕ). sum_by (hopped_at (of p)) (of p) in
      let Y = λ (p : ℕ). sum_by (before_at (of p)) (of p) in
      let D = λ (p : ℕ). sum_by (drop_at (of p)) (of p) in
      let W = λ (p : ℕ). sum_by (wait_at (of p)) (of p) in
      let left = packet-by-packet (read_at ends) events in
      let came = packet-by-packet (read_at starts) events in
      let skews = packet-by-packet skew_at events in
      let hopped = packet-by-packet hopped_at events in
      let before = packet-by-packet before_at events in
      let drops : sum_by D packets ≡ 0 = sym (packet-by-packet drop_at events) ∙ no_drop in
      let waits : sum_by W packets ≡ 0 = sym (packet-by-packet wait_at events) ∙ no_wait in
      let each = λ (p : ℕ). journey-close (of p) (journeys p) (λ x c.
      All-contains (IsOnTime d.times) events x on (from-filter (λ e. eqb (event_packet e) p) events x c).0) in
      let above = sum-le (λ p. E p + Y p) (λ p. S p + X p + A p) packets (λ p c. (each p).above) in
      let below = sum-le (λ p. S p + X p) (λ p. E p + Y p + A p) packets (λ p c.
      (each p).below (omega (arith, item-le-sum D packets p c, drops)) (omega (arith, item-le-sum W packets p c, waits))) in
      let ey = sum-both E Y packets in
      let sx = sum-both S X packets in
      let sxa = sum-both (λ p. S p + X p) A packets in
      let eya = sum-both (λ p. E p + Y p) A packets in
      record {
        above = omega (arith, left, came, skews, hopped, before, above, ey, sx, sxa, eya);
        below = omega (arith, left, came, skews, hopped, before, below, ey, sx, sxa, eya);
      }

  -- the time over the links of all packets is the difference of their times
  pub total-over-is : (events : List Event) → AreJourneys d events
      → total_over inside so events
      ≡ pos (sum_by (λ e. hopped_at (events_of events (event_packet e)) e) events)
      -ℤ pos (sum_by (λ e. before_at (events_of events (event_packet e)) e) events)
  unfolding hop_times times_before
  total-over-is events journeys =
      signed-apart (λ e. hopped_at (events_of events (event_packet e)) e) (λ e. before_at (events_of events (event_packet e)) e)
      (λ e. cond (so e) (time_over inside 0 (events_of events (event_packet e))) (pos 0)) events (pos 0)
      (λ e. one (so e) (events_of events (event_packet e)) (journeys (event_packet e)))
      ∙ omega (arith, ints)
    where
      one : (b : Bool) (es : List Event) → IsJourney d es
          → cond b (time_over inside 0 es) (pos 0)
          ≡ pos (cond b (hop_times inside es) 0) -ℤ pos (cond b (times_before inside es) 0)
      one false es j = omega (arith, ints)
      one true [] j = omega (arith, ints)
      one true (Hop p link time reading ∷ es) j = absurd j
      one true (Lost p ∷ es) j = absurd j
      one true (Send p f v time reading delay ∷ es) j =
          time-over-is inside d.links v (Send p f v time reading delay) es j.3
