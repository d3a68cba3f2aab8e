-- A graph has one list of clusters: the classes of joined links are one, and so are their numbers.
use Rattle.std.proofs.Common.{◌≡◌, ◌∙◌, ℕ, zero, suc, ◌+◌, ◌<◌, ◌≤◌, Bool, true, false, ◌&&◌, eqb, List, [], ◌∷◌, length, get_or, refl, sym, ap, subst, arith, inl, inr, Option, Some, None}
use Rattle.std.specs.Prelude.{Contains, sum_by}
use Rattle.std.specs.List.{list_any, range_with_len}
use Rattle.std.proofs.lemmas.Bool.{cases_order, false≢true, eqb-true, eq-eqb, false_from_ne_true, or_cases, or_left, or_right}
use Rattle.am_domain.specs.declared.link.Edge.{Edge}
use Rattle.am_graph.specs.Lists.{list_at}
use Rattle.am_graph.specs.Graphs.{GraphValue}
use Rattle.am_graph.specs.Clusters.{ClustersValue, AreClusters, IsLeast, count_of, cluster_of}
use Rattle.am_world.specs.declared.event.Event.{Event}
use Rattle.am_world.specs.Events.{event_packet, events_of, is_lost, present}
use Rattle.am_world.specs.Drops.{is_among, is_at, is_start, is_dropped, dropped_in, dropped_in_all}
use Rattle.am_sim.proofs.RowLemmas.{run-all}
use Rattle.am_sim.proofs.SumLemmas.{sum-agree, count-agree}

-- the least link of its class in one list of clusters is so in the other
least-too :
    (g : GraphValue) (c e : ClustersValue) → AreClusters g c → AreClusters g e → (k a : ℕ) → IsLeast c k a → IsLeast e (cluster_of e a) a
least-too g c e cs es k a least =
    let inside : a < length g.links = omega (arith, least.within, cs.each) in
    record {
      within = omega (arith, inside, es.each);
      here = refl;
      before = λ j less same.
          let low : j < length g.links = omega (arith, less, inside) in
          least.before j less ((cs.joined j a low inside).1 ((es.joined j a low inside).0 same) ∙ least.here);
    }

-- clusters below this number have the same least links in both lists
abbrev AgreeBelow : ClustersValue → ClustersValue → ℕ → Type 0
AgreeBelow c e n = (j a : ℕ) → j < n → IsLeast c j a → IsLeast e j a

least-next :
    (g : GraphValue) (c e : ClustersValue) → AreClusters g c → AreClusters g e → (k a : ℕ) → AgreeBelow c e k → AgreeBelow e c k
    → IsLeast c k a → IsLeast e k a
least-next g c e cs es k a there back least =
    let h = cluster_of e a in
    let other : IsLeast e h a = least-too g c e cs es k a least in
    elim (cases_order h k) [
      | inl same ↦ subst (λ n. IsLeast e n a) same other
      | inr (inl less) ↦
          let again : h ≡ k = sym (back h a less other).here ∙ least.here in
          absurd (omega (arith, again, less))
      | inr (inr more) ↦
          let some : h < count_of e = es.numbered.below a other.within in
          let b = (es.numbered.least k (omega (arith, some, more))).0 in
          let lb : IsLeast e k b = (es.numbered.least k (omega (arith, some, more))).1 in
          let before : b < a = es.numbered.order k h b a more lb other in
          let j = cluster_of c b in
          let lj : IsLeast c j b = least-too g e c es cs k b lb in
          elim (cases_order j k) [
            | inl same ↦ absurd (least.before b before same)
            | inr (inl less) ↦
                let again : j ≡ k = sym (there j b less lj).here ∙ lb.here in
                absurd (omega (arith, again, less))
            | inr (inr beyond) ↦ absurd (omega (arith, before, cs.numbered.order k j a b beyond least lj))
          ]
    ]

agree-below :
    (g : GraphValue) (c e : ClustersValue) → AreClusters g c → AreClusters g e → (n : ℕ) → AgreeBelow c e n × AgreeBelow e c n
agree-below g c e cs es zero = ((λ j a h. absurd (omega (arith, h))), (λ j a h. absurd (omega (arith, h))))
agree-below g c e cs es (suc n) =
    let so = agree-below g c e cs es n in (
      (λ j a h least. elim (cases_order j n) [
        | inl same ↦ subst (λ k. IsLeast c k a → IsLeast e k a) (sym same) (least-next g c e cs es n a so.0 so.1) least
        | inr (inl less) ↦ so.0 j a less least
        | inr (inr more) ↦ absurd (omega (arith, h, more))
      ]),
      (λ j a h least. elim (cases_order j n) [
        | inl same ↦ subst (λ k. IsLeast e k a → IsLeast c k a) (sym same) (least-next g e c es cs n a so.1 so.0) least
        | inr (inl less) ↦ so.1 j a less least
        | inr (inr more) ↦ absurd (omega (arith, h, more))
      ]),
    )

-- there are no more clusters in one list than in the other
no-more : (g : GraphValue) (c e : ClustersValue) → AreClusters g c → AreClusters g e → count_of c ≤ count_of e
no-more g c e cs es = elim (cases_order (count_of c) (count_of e)) [
  | inl same ↦ omega (arith, same)
  | inr (inl less) ↦ omega (arith, less)
  | inr (inr more) ↦
      let k = count_of e in
      let a = (cs.numbered.least k more).0 in
      let least : IsLeast e k a = (agree-below g c e cs es (k + 1)).0 k a (omega arith) (cs.numbered.least k more).1 in
      let within : cluster_of e a < k = es.numbered.below a least.within in
      absurd (omega (arith, within, least.here))
]

pub same-count : (g : GraphValue) (c e : ClustersValue) → AreClusters g c → AreClusters g e → count_of c ≡ count_of e
same-count g c e cs es = omega (arith, no-more g c e cs es, no-more g e c es cs)

-- each link has the same cluster in both
pub same-cluster :
    (g : GraphValue) (c e : ClustersValue) → AreClusters g c → AreClusters g e → (link : ℕ) → link < length g.links
    → cluster_of e link ≡ cluster_of c link
same-cluster g c e cs es link below =
    let k = cluster_of c link in
    let within : k < count_of c = cs.numbered.below link (omega (arith, below, cs.each)) in
    let a = (cs.numbered.least k within).0 in
    let least : IsLeast c k a = (cs.numbered.least k within).1 in
    let inside : a < length g.links = omega (arith, least.within, cs.each) in
    let too : IsLeast e k a = (agree-below g c e cs es (k + 1)).0 k a (omega arith) least in
    (es.joined link a below inside).1 ((cs.joined link a below inside).0 (sym least.here)) ∙ too.here

-- a start of a cluster in one list is one in the other
start-too :
    (g : GraphValue) (c e : ClustersValue) → AreClusters g c → AreClusters g e → (k node : ℕ) → k < count_of c
    → Contains (list_at c.starts k) node → Contains (list_at e.starts k) node
start-too g c e cs es k node within has =
    let at = ((cs.starts k within).has node).0 has in
    let below : at.0 < length g.links = omega (arith, at.1.within, cs.each) in
    ((es.starts k (omega (arith, within, same-count g c e cs es))).has node).1
    (at.0, record { within = omega (arith, below, es.each); here = same-cluster g c e cs es at.0 below ∙ at.1.here }, at.2)

-- a number that stands in a list is among its numbers
among-from : (xs : List ℕ) (v : ℕ) → Contains xs v → is_among xs v ≡ true
among-from [] v h = absurd (omega (arith, h.1))
among-from (x ∷ xs) v (zero, below, here) = or_left (eqb x v) (is_among xs v) (eq-eqb x v here)
among-from (x ∷ xs) v (suc k, below, here) =
    or_right (eqb x v) (is_among xs v) (among-from xs v (k, omega (arith, below), here))

from-among : (xs : List ℕ) (v : ℕ) → is_among xs v ≡ true → Contains xs v
from-among [] v h = absurd (cc h)
from-among (x ∷ xs) v h = elim (or_cases (eqb x v) (is_among xs v) h) [
  | inl here ↦ (0, omega arith, eqb-true x v here)
  | inr there ↦ let r = from-among xs v there in (suc r.0, omega (arith, r.1), r.2)
]

-- two tests that follow from one another are one
same-tests : (x y : Bool) → (x ≡ true → y ≡ true) → (y ≡ true → x ≡ true) → x ≡ y
same-tests true y to from = sym (to refl)
same-tests false y to from = sym (false_from_ne_true y (λ h. false≢true (from h)))

module _ (g : GraphValue) (c e : ClustersValue) (cs : AreClusters g c) (es : AreClusters g e) where
  start-same : (k node : ℕ) → k < count_of c → is_start c k node ≡ is_start e k node
  start-same k node within =
      same-tests (is_start c k node) (is_start e k node)
      (λ h. among-from (list_at e.starts k) node (start-too g c e cs es k node within (from-among (list_at c.starts k) node h)))
      (λ h. among-from (list_at c.starts k) node
      (start-too g e c es cs k node (omega (arith, within, same-count g c e cs es)) (from-among (list_at e.starts k) node h)))

  at-same : (k : ℕ) (node : Option ℕ) → k < count_of c → is_at (is_start c k) node ≡ is_at (is_start e k) node
  at-same k None within = refl
  at-same k (Some node) within = start-same k node within

  -- so the same is dropped in it
  pub dropped-same : (links : List Edge) (so : Event → Bool) (events : List Event) (k : ℕ) → k < count_of c
      → dropped_in links c k so events ≡ dropped_in links e k so events
  dropped-same links so events k within =
      count-agree (λ x. so x && is_dropped links (is_start c k) (events_of events (event_packet x)))
      (λ x. so x && is_dropped links (is_start e k) (events_of events (event_packet x))) events
      (λ i d h. ap (λ b. so (get_or events i d) && (list_any is_lost (events_of events (event_packet (get_or events i d))) && b))
      (at-same k (present links (events_of events (event_packet (get_or events i d)))) within))

  -- and in all clusters together
  pub dropped-all-same : (links : List Edge) (so : Event → Bool) (events : List Event)
      → dropped_in_all links c so events ≡ dropped_in_all links e so events
  dropped-all-same links so events =
      sum-agree (λ k. dropped_in links c k so events) (λ k. dropped_in links e k so events) (range_with_len 0 (count_of c))
      (run-all (λ k. dropped_in links c k so events ≡ dropped_in links e k so events) 0 (count_of c)
      (λ k _ below. dropped-same links so events k (omega (arith, below))))
      ∙ ap (λ n. sum_by (λ k. dropped_in links e k so events) (range_with_len 0 n)) (same-count g c e cs es)
