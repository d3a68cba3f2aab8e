-- The loss that a table tells is the number of packets dropped.
use Rattle.std.proofs.Common.{◌≡◌, ◌∙◌, ℕ, suc, ◌+◌, ◌<◌, Bool, true, false, cond, eqb, ◌&&◌, List, [], ◌∷◌, length, get_or, Option, Some, None, refl, sym, ap, subst, arith, inl, inr}
use Rattle.std.specs.Prelude.{Contains, sum_by, map, fold, not, ℤ, pos, ◌+ℤ◌}
use Rattle.std.specs.List.{list_any, range_with_len}
use Rattle.std.proofs.lemmas.Bool.{false≢true, eqb-true, eq-eqb, ne_eqb, cases_Bool, and_parts, and_right, false_from_ne_true}
use Rattle.std.proofs.lemmas.Int.{ints}
use Rattle.std.proofs.lemmas.List.{get_or_default}
use Rattle.std.proofs.lemmas.List.FromFn.{length-range_with_len, get_or-range_with_len}
use Rattle.std.proofs.lemmas.List.Sums.{sum_by-cons}
use Rattle.am_domain.specs.declared.link.Edge.{Edge}
use Rattle.am_domain.specs.Values.{FlowValue}
use Rattle.am_domain.specs.Network.{has_links_out}
use Rattle.am_domain.specs.Domains.{DomainValue, IsLawful, Reports}
use Rattle.am_graph.specs.Lists.{Ascends, list_at}
use Rattle.am_graph.specs.Graphs.{graph_of, start_of, end_of}
use Rattle.am_graph.specs.Clusters.{ClustersValue, AreClusters, count_of}
use Rattle.am_cells.specs.declared.cell.Cell.{Cell}
use Rattle.am_meter.specs.declared.stream.Marked.{Marked}
use Rattle.am_control.specs.declared.row.Scope.TheVariants.{Cluster, Network}
use Rattle.am_control.specs.Plans.{IsPlanOf}
use Rattle.am_control.specs.Rows.{Measured, node_cell, side_cell, loss_row, lost_in, lost_in_clusters}
use Rattle.am_world.specs.declared.event.Event.{Event}
use Rattle.am_world.specs.declared.event.Event.TheVariants.{Send, Hop, Lost}
use Rattle.am_world.specs.Events.{event_packet, events_of, is_lost, present}
use Rattle.am_world.specs.Worlds.{IsOver}
use Rattle.am_world.specs.Passes.{passes, passes_sent, is_sent, passed_at, sends}
use Rattle.am_world.specs.Drops.{is_among, is_start, is_at, is_waiting, waiting_at, dropped_in, dropped_in_all}
use Rattle.am_world.specs.Laws.{AreAttributed}
use Rattle.am_world.specs.Losses.{AreRecorded, IsCountedFrom}
use Rattle.am_world.proofs.SumLemmas.{sum-same, sum-none, sum-turned}
use Rattle.am_world.proofs.ClusterLemmas.{from-among, start-leads-on}
use Rattle.am_world.proofs.AttributionLemmas.{attributed}
use Rattle.am_world.proofs.CountingLemmas.{counted-all}
use Rattle.am_world.proofs.LawLemmas.{conserved}

-- an equality from either side
eqb-turned : (a b : ℕ) → eqb a b ≡ eqb b a
eqb-turned a b = elim (cases_Bool (eqb b a)) [
  | inl same ↦ rw same (eq-eqb a b (sym (eqb-true b a same)))
  | inr other ↦ rw other (ne_eqb a b (λ e. false≢true (sym other ∙ eq-eqb b a (sym e))))
]

-- the items after the first of an ascending list ascend, and are above it
ascends-rest : (x : ℕ) (xs : List ℕ) → Ascends (x ∷ xs) → Ascends xs
ascends-rest x xs up i j less below = up (suc i) (suc j) (omega arith) (omega arith)

first-below : (x v : ℕ) (xs : List ℕ) → Ascends (x ∷ xs) → Contains xs v → x < v
first-below x v xs up h =
    let less : x < get_or xs h.0 0 = up 0 (suc h.0) (omega arith) (omega (arith, h.1)) in
    let same : get_or xs h.0 0 ≡ v = get_or_default xs h.0 0 v h.1 ∙ h.2 in
    omega arith

-- a weight at a number of an ascending list is added once
among-once : (v a : ℕ) (fact : Bool) (xs : List ℕ) → Ascends xs
    → sum_by (λ x. cond (eqb v x && fact) a 0) xs ≡ cond (is_among xs v && fact) a 0
among-once v a fact [] up = refl
among-once v a fact (x ∷ xs) up = elim (cases_Bool (eqb v x)) [
  | inl here ↦
      let away : is_among xs v ≡ false = false_from_ne_true (is_among xs v) (λ h. absurd (omega (
        arith,
        first-below x v xs up (from-among xs v h),
        eqb-true v x here,
      ))) in
      let rest = among-once v a fact xs (ascends-rest x xs up) in
      let none : sum_by (λ x. cond (eqb v x && fact) a 0) xs ≡ 0 = rest ∙ rw away refl in
      let turned : eqb x v ≡ true = eqb-turned x v ∙ here in
      sum_by-cons (λ x. cond (eqb v x && fact) a 0) x xs ∙ rw (here, turned) (omega (arith, none))
  | inr other ↦
      let rest = among-once v a fact xs (ascends-rest x xs up) in
      let turned : eqb x v ≡ false = eqb-turned x v ∙ other in
      sum_by-cons (λ x. cond (eqb v x && fact) a 0) x xs ∙ rw (other, turned) (omega (arith, rest))
]

-- what passes the nodes of an ascending list one by one, passes one of them
pub passed-side : (links : List Edge) (so : Event → Bool) (events : List Event) (weight : Event → ℕ) (side : List ℕ) → Ascends side
    → sum_by (λ v. sum_by (λ e. cond (passes_sent links (λ n. eqb n v) so events e) (weight e) 0) events) side
    ≡ sum_by (λ e. cond (passes_sent links (is_among side) so events e) (weight e) 0) events
passed-side links so events weight side up =
    sum-turned (λ v e. cond (passes_sent links (λ n. eqb n v) so events e) (weight e) 0) side events
    ∙ sum-same (λ e. sum_by (λ v. cond (passes_sent links (λ n. eqb n v) so events e) (weight e) 0) side)
    (λ e. cond (passes_sent links (is_among side) so events e) (weight e) 0) events
    (λ e _. one e (is_sent so events e) (weight e))
  where
    one : (e : Event) (sent : Bool) (a : ℕ)
        → sum_by (λ v. cond (passes links (λ n. eqb n v) e && sent) a 0) side
        ≡ cond (passes links (is_among side) e && sent) a 0
    one (Send p f v time reading delay) sent a = among-once v a sent side up
    one (Hop p link time reading) sent a = among-once (end_of links link) a sent side up
    one (Lost p) sent a = sum-none side

-- of a valid world, no packet waits at nodes at each of which a link begins
pub none-stays : (d : DomainValue) (here : ℕ → Bool) → ((v : ℕ) → here v ≡ true → has_links_out d.links v ≡ true)
    → (so : Event → Bool) (events : List Event) → ((packet : ℕ) → IsOver d.links (events_of events packet))
    → waiting_at d.links here so events ≡ 0
none-stays d here leads so events over =
    sum-same (λ e. cond (so e && is_waiting d.links here (events_of events (event_packet e))) 1 0) (λ _. 0) events
    (λ e _. ap (λ b. cond b 1 0) (and_right (so e) (is_waiting d.links here (events_of events (event_packet e)))
    (false_from_ne_true (is_waiting d.links here (events_of events (event_packet e)))
    (λ h. gone (events_of events (event_packet e)) (over (event_packet e)) h))))
    ∙ sum-none events
  where
    at-none : (es : List Event) → IsOver d.links es → list_any is_lost es ≡ false → (at : Option ℕ) → present d.links es ≡ at
        → is_at here at ≡ true → ⊥
    at-none es over' kept None is h = absurd (cc h)
    at-none es over' kept (Some v) is h = false≢true (sym (over' v kept is) ∙ leads v h)

    kept-from : (b : Bool) → not b ≡ true → b ≡ false
    kept-from false h = refl
    kept-from true h = absurd (cc h)

    gone : (es : List Event) → IsOver d.links es → is_waiting d.links here es ≡ true → ⊥
    gone es over' h =
        let both = and_parts (not (list_any is_lost es)) (is_at here (present d.links es)) h in
        at-none es over' (kept-from (list_any is_lost es) both.0) (present d.links es) refl both.1

-- so none waits at a start of a cluster
pub none-waits : (d : DomainValue) (c : ClustersValue) → AreClusters (graph_of d) c → (k : ℕ) → k < count_of c
    → (so : Event → Bool) (events : List Event) → ((packet : ℕ) → IsOver d.links (events_of events packet))
    → waiting_at d.links (is_start c k) so events ≡ 0
none-waits d c of k within = none-stays d (is_start c k) (start-leads-on d c of k within)

module _ (d : DomainValue) (m : Measured) (events : List Event) (captures : ℕ → List Marked) (flow block : ℕ)
    (lawful : IsLawful d) (of : IsPlanOf d m.plan) (counted : IsCountedFrom d captures m)
    (recorded : AreRecorded d events captures) (flow_within : flow < length d.flows) (reported : Reports d block) where
  passing : AreAttributed d events
  passing = attributed d events lawful.timing recorded.valid.journeys recorded.timed

  -- this stands for a flow that there isn't
  some_flow : FlowValue
  some_flow = record { name = []; id = 0; source = record { bytes = []; length = 0 }; destination = record { bytes = []; length = 0 } }

  -- a node's count is how many packets passed it
  node-count : (v : ℕ) → v < length d.nodes
      → (node_cell m.cells flow block v).count
      ≡ sum_by (λ e. cond (passes_sent d.links (λ n. eqb n v) (sends d.times flow block) events e) 1 0) events
  node-count v below =
      ap (λ (c : Cell). c.count) ((counted v below).cells flow block some_flow flow_within reported)
      ∙ counted-all d lawful events recorded.valid.journeys passing v below (captures v) (recorded.each v below)
      flow block some_flow flow_within reported (λ _. 1)

  -- what a side counts is how many packets passed it
  side-count : (side : List ℕ) → Ascends side → ((v : ℕ) → Contains side v → v < length d.nodes)
      → sum_by (λ v. (node_cell m.cells flow block v).count) side
      ≡ passed_at d.links (is_among side) (sends d.times flow block) events
  side-count side up below =
      sum-same (λ v. (node_cell m.cells flow block v).count)
      (λ v. sum_by (λ e. cond (passes_sent d.links (λ n. eqb n v) (sends d.times flow block) events e) 1 0) events) side
      (λ v h. node-count v (below v h))
      ∙ passed-side d.links (sends d.times flow block) events (λ _. 1) side up

  link-within : (link : ℕ) → link < length d.links
      → (start_of d.links link < length d.nodes) × (end_of d.links link < length d.nodes)
  link-within link below = lawful.links_within link (record { from = 0; to = 0 }) below

  -- the loss of a cluster is what was dropped in it
  pub cluster-drops : (k : ℕ) → k < count_of m.plan.clusters
      → lost_in m (Cluster k) flow block
      ≡ pos (dropped_in d.links m.plan.clusters k (sends d.times flow block) events)
  unfolding loss_row side_cell
  cluster-drops k within =
      let c = m.plan.clusters in
      let starts = of.clusters.starts k within in
      let ends = of.clusters.ends k within in
      let came = side-count (list_at c.starts k) starts.ascends
      (λ v h. let at = (starts.has v).0 h in
      subst (λ n. n < length d.nodes) at.2 (link-within at.0 (omega (arith, at.1.within, of.clusters.each))).0) in
      let went = side-count (list_at c.ends k) ends.ascends
      (λ v h. let at = (ends.has v).0 h in
      subst (λ n. n < length d.nodes) at.2 (link-within at.0 (omega (arith, at.1.within, of.clusters.each))).1) in
      let both = conserved d c events k flow block of.clusters within recorded.valid.journeys in
      let none = none-waits d c of.clusters k within (sends d.times flow block) events recorded.valid.over in
      let left = ap (λ a. pos a) (came ∙ both.starts) in
      let right = ap (λ a. pos a) (went ∙ both.ends) in
      rw (came, went, both.starts, both.ends, none) (omega (arith, ints))

  -- and that of the network what was dropped in all
  pub network-drops : lost_in m Network flow block ≡ lost_in_clusters m flow block
      → lost_in m Network flow block
      ≡ pos (dropped_in_all d.links m.plan.clusters (sends d.times flow block) events)
  network-drops whole =
      let count = count_of m.plan.clusters in
      whole ∙ folded (λ k. lost_in m (Cluster k) flow block)
      (λ k. dropped_in d.links m.plan.clusters k (sends d.times flow block) events) (range_with_len 0 count) 0
      (λ k h. cluster-drops k (in-run count k h)) ∙ omega (arith, ints)
    where
      in-run : (n v : ℕ) → Contains (range_with_len 0 n) v → v < n
      in-run n v h =
          let below : h.0 < n = omega (arith, h.1, length-range_with_len 0 n) in
          omega (arith, h.2, get_or-range_with_len 0 n h.0 v below)

      folded : (loss : ℕ → ℤ) (drops : ℕ → ℕ) (xs : List ℕ) (z : ℕ) → ((k : ℕ) → Contains xs k → loss k ≡ pos (drops k))
          → fold ◌+ℤ◌ (pos z) (map loss xs) ≡ pos (z + sum_by drops xs)
      folded loss drops [] z each = omega (arith, ints)
      folded loss drops (x ∷ xs) z each =
          let first : pos z +ℤ loss x ≡ pos (z + drops x)
          = ap (λ l. pos z +ℤ l) (each x (0, omega arith, refl)) ∙ omega (arith, ints) in
          let rest = folded loss drops xs (z + drops x) (λ k h. each k (suc h.0, omega (arith, h.1), h.2)) in
          ap (λ a. fold ◌+ℤ◌ a (map loss xs)) first ∙ rest ∙ omega (arith, ints, sum_by-cons drops x xs)
