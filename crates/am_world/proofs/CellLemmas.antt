-- The delay of a cluster's cells is how long the packets took over its links, but for the skew.
use Rattle.std.proofs.Common.{◌≡◌, ◌∙◌, ℕ, ◌+◌, ◌*◌, ◌%◌, ◌<◌, ◌≤◌, Bool, true, cond, eqb, ◌&&◌, List, [], ◌∷◌, length, refl, sym, ap, subst, arith, inl, inr}
use Rattle.std.specs.Prelude.{Contains, sum_by, count_by, filter, slice_index_or, pos, ◌-ℤ◌, IfSome}
use Rattle.std.proofs.lemmas.Bool.{cases_Bool, eqb-true, and_parts}
use Rattle.std.proofs.lemmas.Bool.Decides.{nat_tests}
use Rattle.std.proofs.lemmas.Int.{ints}
use Rattle.std.proofs.lemmas.List.Sums.{sum_by-cons}
use Rattle.am_clock.specs.Times.{Times, in_window, parity}
use Rattle.am_domain.specs.Network.{has_links_in, has_links_out}
use Rattle.am_domain.specs.Values.{FlowValue}
use Rattle.am_domain.specs.Domains.{DomainValue, IsLawful, Reports}
use Rattle.am_graph.specs.Lists.{Ascends, list_at}
use Rattle.am_graph.specs.Clusters.{count_of}
use Rattle.am_cells.specs.declared.cell.Cell.{Cell}
use Rattle.am_meter.specs.declared.stream.Marked.{Marked}
use Rattle.am_meter.specs.Metering.{counts_in, delays_in, node_shift, origin, offset_in, cell_of}
use Rattle.am_control.specs.declared.row.Scope.TheVariants.{Cluster, Network}
use Rattle.am_control.specs.Plans.{nodes_without, IsPlanOf}
use Rattle.am_control.specs.Rows.{Measured, node_cell, side_cell, loss_row}
use Rattle.am_world.specs.declared.event.Event.{Event}
use Rattle.am_world.specs.Events.{event_reading}
use Rattle.am_world.specs.Passes.{passes_sent, sends, sends_delayed, is_sent}
use Rattle.am_world.specs.Drops.{is_among, is_start, is_end, is_inside, hops_over, hopped_over, dropped_at}
use Rattle.am_world.specs.Laws.{AreAttributed}
use Rattle.am_world.specs.Losses.{AreRecorded, IsCountedFrom}
use Rattle.am_world.specs.Delays.{DifferByAtMost, total_over, total_on_way}
use Rattle.am_world.proofs.SumLemmas.{sum-both, sum-same, sum-passing, weigh-one}
use Rattle.am_world.proofs.JourneyLemmas.{IsOfSends}
use Rattle.am_world.proofs.ClusterLemmas.{cluster-sides, entry-no-end}
use Rattle.am_world.proofs.ConservationLemmas.{starts-conserved, ends-conserved}
use Rattle.am_world.proofs.AttributionLemmas.{attributed}
use Rattle.am_world.proofs.CountingLemmas.{counted-all, counted-delayed}
use Rattle.am_world.proofs.LawLemmas.{sends-only, delayed-only}
use Rattle.am_world.proofs.DropLemmas.{passed-side, none-waits}
use Rattle.am_world.proofs.DelayLemmas.{all-close, total-over-is}
use Rattle.am_world.proofs.WayLemmas.{AreOuter, all-ways, total-way-is}
use Rattle.am_world.proofs.OuterLemmas.{without-from, without-ascends, nodes-outer}

-- a product of a sum
sum-times : {X : Type 0} (f : X → ℕ) (n : ℕ) (xs : List X) → sum_by (λ x. f x * n) xs ≡ sum_by f xs * n
sum-times f n [] = omega arith
sum-times f n (x ∷ xs) =
    rw (sum_by-cons (λ x. f x * n) x xs, sum_by-cons f x xs) (omega (arith, sum-times f n xs))

-- readings of records that are seen after the block's origin, as offsets
readings-apart : (t : Times) (block : ℕ) (test : Marked → Bool) (ms : List Marked)
    → ((m : Marked) → test m ≡ true → origin t block ≤ m.reading)
    → sum_by (λ m. cond (test m) m.reading 0) ms
    ≡ sum_by (offset_in t block) (filter test ms) + count_by test ms * origin t block
readings-apart t block test ms after =
    sum-same (λ m. cond (test m) m.reading 0)
    (λ m. cond (test m) (offset_in t block m) 0 + cond (test m) (origin t block) 0) ms (λ m _. one m)
    ∙ sum-both (λ m. cond (test m) (offset_in t block m) 0) (λ m. cond (test m) (origin t block) 0) ms
    ∙ ap (λ n. n + sum_by (λ m. cond (test m) (origin t block) 0) ms) (sym (sum-passing (offset_in t block) test ms))
    ∙ ap (λ n. sum_by (offset_in t block) (filter test ms) + n) (weigh-one (origin t block) test ms)
  where
    one : (m : Marked) → cond (test m) m.reading 0
        ≡ cond (test m) (offset_in t block m) 0 + cond (test m) (origin t block) 0
    one m = elim (cases_Bool (test m)) [
      | inl counts ↦ rw counts (omega (arith, after m counts))
      | inr away ↦ rw away refl
    ]

-- a record that counts in a block was seen after its origin
counts-after : (t : Times) (id shift block : ℕ) (m : Marked) → counts_in t id shift block m ≡ true → origin t block ≤ m.reading
counts-after t id shift block m h =
    let outer = and_parts (eqb m.mark.flow id)
    (eqb (block % 2) (parity m.mark.loss) && in_window t m.reading shift block) h in
    let inner = and_parts (eqb (block % 2) (parity m.mark.loss)) (in_window t m.reading shift block) outer.1 in
    let windowed : in_window t m.reading shift block ≡ true = inner.1 in
    grind (arith, nat_tests)

module _ (d : DomainValue) (m : Measured) (events : List Event) (captures : ℕ → List Marked) (flow block : ℕ)
    (lawful : IsLawful d) (of : IsPlanOf d m.plan) (recorded : AreRecorded d events captures)
    (so : Event → Bool) (alone : IsOfSends so) (count offsets : ℕ → ℕ)
    (counts : (v : ℕ) → v < length d.nodes
    → count v ≡ sum_by (λ e. cond (passes_sent d.links (λ n. eqb n v) so events e) 1 0) events)
    (readings : (v : ℕ) → v < length d.nodes
    → sum_by (λ e. cond (passes_sent d.links (λ n. eqb n v) so events e) (event_reading e) 0) events
    ≡ offsets v + count v * origin d.times block) where
  start-within : (k : ℕ) → k < count_of m.plan.clusters → (v : ℕ) → Contains (list_at m.plan.clusters.starts k) v → v < length d.nodes
  start-within k within v h =
      let at = ((of.clusters.starts k within).has v).0 h in
      subst (λ n. n < length d.nodes) at.2
      (lawful.links_within at.0 (record { from = 0; to = 0 }) (omega (arith, at.1.within, of.clusters.each))).0

  end-within : (k : ℕ) → k < count_of m.plan.clusters → (v : ℕ) → Contains (list_at m.plan.clusters.ends k) v → v < length d.nodes
  end-within k within v h =
      let at = ((of.clusters.ends k within).has v).0 h in
      subst (λ n. n < length d.nodes) at.2
      (lawful.links_within at.0 (record { from = 0; to = 0 }) (omega (arith, at.1.within, of.clusters.each))).1

  side-counts : (side : List ℕ) → Ascends side → ((v : ℕ) → Contains side v → v < length d.nodes)
      → sum_by count side
      ≡ sum_by (λ e. cond (passes_sent d.links (is_among side) so events e) 1 0) events
  side-counts side up below =
      sum-same count (λ v. sum_by (λ e. cond (passes_sent d.links (λ n. eqb n v) so events e) 1 0) events) side
      (λ v h. counts v (below v h))
      ∙ passed-side d.links so events (λ _. 1) side up

  side-readings : (side : List ℕ) → Ascends side → ((v : ℕ) → Contains side v → v < length d.nodes)
      → sum_by (λ e. cond (passes_sent d.links (is_among side) so events e) (event_reading e) 0) events
      ≡ sum_by offsets side + sum_by count side * origin d.times block
  side-readings side up below =
      sym (passed-side d.links so events event_reading side up)
      ∙ sum-same (λ v. sum_by (λ e. cond (passes_sent d.links (λ n. eqb n v) so events e) (event_reading e) 0) events)
      (λ v. offsets v + count v * origin d.times block) side (λ v h. readings v (below v h))
      ∙ sum-both offsets (λ v. count v * origin d.times block) side
      ∙ ap (λ n. sum_by offsets side + n) (sum-times count (origin d.times block) side)

  -- where as many left as entered, the sums of the offsets differ by how long the packets took
  pub offsets-tell : (k : ℕ) → k < count_of m.plan.clusters → sum_by count (list_at m.plan.clusters.starts k) ≡ sum_by count (list_at m.plan.clusters.ends k)
      → DifferByAtMost
      (pos (sum_by offsets (list_at m.plan.clusters.ends k)) -ℤ pos (sum_by offsets (list_at m.plan.clusters.starts k)))
      (total_over (is_inside m.plan.clusters k) so events)
      (sum_by count (list_at m.plan.clusters.ends k) * d.times.skew)
  offsets-tell k within even =
      let c = m.plan.clusters in
      let starts = of.clusters.starts k within in
      let ends = of.clusters.ends k within in
      let sides = cluster-sides d c of.clusters k within in
      let entries = entry-no-end d c of.clusters k within in
      let journeys = recorded.valid.journeys in
      let came = side-counts (list_at c.starts k) starts.ascends (start-within k within) in
      let went = side-counts (list_at c.ends k) ends.ascends (end-within k within) in
      let came_read = side-readings (list_at c.starts k) starts.ascends (start-within k within) in
      let went_read = side-readings (list_at c.ends k) ends.ascends (end-within k within) in
      let in' = starts-conserved d (is_inside c k) (is_start c k) (is_end c k) sides entries so alone events journeys in
      let out = ends-conserved d (is_inside c k) (is_start c k) (is_end c k) sides entries so alone events journeys in
      let none = none-waits d c of.clusters k within so events recorded.valid.over in
      let dropped : dropped_at d.links (is_start c k) so events ≡ 0 = omega (arith, even, came, went, in', out) in
      let close = all-close d (is_inside c k) (is_start c k) (is_end c k) sides entries so alone events journeys
      recorded.timed.clocks dropped none in
      let total = total-over-is d (is_inside c k) (is_start c k) (is_end c k) sides entries so alone events journeys in
      let skews = weigh-one d.times.skew (λ e. hops_over (is_inside c k) e && is_sent so events e) events in
      let hops : sum_by count (list_at c.ends k) ≡ hopped_over (is_inside c k) so events = went ∙ out in
      let skew : sum_by (λ e. cond (hops_over (is_inside c k) e && is_sent so events e) d.times.skew 0) events
      ≡ sum_by count (list_at c.ends k) * d.times.skew = skews ∙ ap (λ n. n * d.times.skew) (sym hops) in
      let same : sum_by count (list_at c.starts k) * origin d.times block ≡ sum_by count (list_at c.ends k) * origin d.times block
      = ap (λ n. n * origin d.times block) even in
      record {
        above = omega (arith, ints, total, came_read, went_read, same, skew, close.above);
        below = omega (arith, ints, total, came_read, went_read, same, skew, close.below);
      }

  -- where as many left the network as entered it, they differ by how long the packets were on their way
  pub way-tells : sum_by count m.plan.entries ≡ sum_by count m.plan.exits
      → DifferByAtMost (pos (sum_by offsets m.plan.exits) -ℤ pos (sum_by offsets m.plan.entries))
      (total_on_way d.links so events) (sum_by count m.plan.exits * d.times.skew)
  way-tells even =
      let entries = m.plan.entries in
      let exits = m.plan.exits in
      let outer : AreOuter d (is_among entries) (is_among exits) = rw (of.entries, of.exits) (nodes-outer d lawful) in
      let in-nodes = λ (has : ℕ → Bool) (v : ℕ) (h : Contains (nodes_without has (length d.nodes)) v).
      (without-from has (length d.nodes) v h).0 in
      let entries-up : Ascends entries = subst Ascends (sym of.entries) (without-ascends (has_links_in d.links) (length d.nodes)) in
      let exits-up : Ascends exits = subst Ascends (sym of.exits) (without-ascends (has_links_out d.links) (length d.nodes)) in
      let entry-within = λ (v : ℕ) (h : Contains entries v).
      in-nodes (has_links_in d.links) v (subst (λ side. Contains side v) of.entries h) in
      let exit-within = λ (v : ℕ) (h : Contains exits v).
      in-nodes (has_links_out d.links) v (subst (λ side. Contains side v) of.exits h) in
      let journeys = recorded.valid.journeys in
      let came = side-counts entries entries-up entry-within in
      let went = side-counts exits exits-up exit-within in
      let came_read = side-readings entries entries-up entry-within in
      let went_read = side-readings exits exits-up exit-within in
      let close = all-ways d (is_among entries) (is_among exits) outer so alone events journeys recorded.timed.clocks
      (sym came ∙ even ∙ went) in
      let total = total-way-is d (is_among entries) (is_among exits) outer so alone events journeys in
      let skews = weigh-one d.times.skew (passes_sent d.links (is_among exits) so events) events in
      let skew : sum_by (λ e. cond (passes_sent d.links (is_among exits) so events e) d.times.skew 0) events
      ≡ sum_by count exits * d.times.skew = skews ∙ ap (λ n. n * d.times.skew) (sym went) in
      let same : sum_by count entries * origin d.times block ≡ sum_by count exits * origin d.times block
      = ap (λ n. n * origin d.times block) even in
      record {
        above = omega (arith, ints, total, came_read, went_read, same, skew, close.above);
        below = omega (arith, ints, total, came_read, went_read, same, skew, close.below);
      }

module _ (d : DomainValue) (m : Measured) (events : List Event) (captures : ℕ → List Marked) (flow block : ℕ)
    (lawful : IsLawful d) (of : IsPlanOf d m.plan) (counted : IsCountedFrom d captures m)
    (recorded : AreRecorded d events captures) (flow_within : flow < length d.flows) (reported : Reports d block) where
  -- this stands for a flow that there isn't
  some_flow : FlowValue
  some_flow = record { name = []; id = 0; source = record { bytes = []; length = 0 }; destination = record { bytes = []; length = 0 } }

  abbrev flow_id : ℕ
  flow_id = (slice_index_or d.flows flow some_flow).id

  passing : AreAttributed d events
  passing = attributed d events lawful.timing recorded.valid.journeys recorded.timed

  the-cell : (v : ℕ) → v < length d.nodes
      → node_cell m.cells flow block v ≡ cell_of d.times flow_id (node_shift d v) block (captures v)
  the-cell v below = (counted v below).cells flow block some_flow flow_within reported

  -- what the cells of a node count and sum up, of all packets and of those with the delay bit
  abbrev count_at : ℕ → ℕ
  count_at v = (node_cell m.cells flow block v).count

  abbrev sum_at : ℕ → ℕ
  sum_at v = (node_cell m.cells flow block v).sum

  abbrev d_count_at : ℕ → ℕ
  d_count_at v = (node_cell m.cells flow block v).dcount

  abbrev d_sum_at : ℕ → ℕ
  d_sum_at v = (node_cell m.cells flow block v).dsum

  counts-all : (v : ℕ) → v < length d.nodes
      → count_at v ≡ sum_by (λ e. cond (passes_sent d.links (λ n. eqb n v) (sends d.times flow block) events e) 1 0) events
  counts-all v below =
      ap (λ (c : Cell). c.count) (the-cell v below)
      ∙ counted-all d lawful events recorded.valid.journeys passing v below (captures v) (recorded.each v below)
      flow block some_flow flow_within reported (λ _. 1)

  readings-all : (v : ℕ) → v < length d.nodes
      → sum_by (λ e. cond (passes_sent d.links (λ n. eqb n v) (sends d.times flow block) events e) (event_reading e) 0) events
      ≡ sum_at v + count_at v * origin d.times block
  readings-all v below =
      sym (counted-all d lawful events recorded.valid.journeys passing v below (captures v) (recorded.each v below)
      flow block some_flow flow_within reported (λ r. r))
      ∙ readings-apart d.times block (counts_in d.times flow_id (node_shift d v) block) (captures v)
      (counts-after d.times flow_id (node_shift d v) block)
      ∙ ap (λ (c : Cell). c.sum + c.count * origin d.times block) (sym (the-cell v below))

  counts-delayed : (v : ℕ) → v < length d.nodes
      → d_count_at v
      ≡ sum_by (λ e. cond (passes_sent d.links (λ n. eqb n v) (sends_delayed d.times flow block) events e) 1 0) events
  counts-delayed v below =
      ap (λ (c : Cell). c.dcount) (the-cell v below)
      ∙ counted-delayed d lawful events recorded.valid.journeys passing v below (captures v) (recorded.each v below)
      flow block some_flow flow_within reported (λ _. 1)

  readings-delayed : (v : ℕ) → v < length d.nodes
      → sum_by (λ e. cond (passes_sent d.links (λ n. eqb n v) (sends_delayed d.times flow block) events e) (event_reading e) 0) events
      ≡ d_sum_at v + d_count_at v * origin d.times block
  readings-delayed v below =
      sym (counted-delayed d lawful events recorded.valid.journeys passing v below (captures v) (recorded.each v below)
      flow block some_flow flow_within reported (λ r. r))
      ∙ readings-apart d.times block (delays_in d.times flow_id (node_shift d v) block) (captures v)
      (λ r h. counts-after d.times flow_id (node_shift d v) block r
      (and_parts (counts_in d.times flow_id (node_shift d v) block r) r.mark.delay h).0)
      ∙ ap (λ (c : Cell). c.dsum + c.dcount * origin d.times block) (sym (the-cell v below))

  -- of a cluster's row, the delay and that of the packets with the delay bit
  pub cluster-delay : (k : ℕ) → k < count_of m.plan.clusters
      → IfSome (loss_row m (Cluster k) flow block).delay (λ delay.
      DifferByAtMost delay (total_over (is_inside m.plan.clusters k) (sends d.times flow block) events)
      ((loss_row m (Cluster k) flow block).left * d.times.skew))
  unfolding loss_row side_cell
  cluster-delay k within =
      elim (cases_Bool (eqb (sum_by count_at (list_at m.plan.clusters.starts k)) (sum_by count_at (list_at m.plan.clusters.ends k)))) [
        | inl even ↦ rw even (offsets-tell d m events captures flow block lawful of recorded (sends d.times flow block)
            (sends-only d.times flow block) count_at sum_at counts-all readings-all k within
            (eqb-true (sum_by count_at (list_at m.plan.clusters.starts k)) (sum_by count_at (list_at m.plan.clusters.ends k)) even))
        | inr odd ↦ rw odd tt
      ]

  pub cluster-d_delay : (k : ℕ) → k < count_of m.plan.clusters
      → IfSome (loss_row m (Cluster k) flow block).d_delay (λ delay.
      DifferByAtMost delay (total_over (is_inside m.plan.clusters k) (sends_delayed d.times flow block) events)
      ((loss_row m (Cluster k) flow block).d_left * d.times.skew))
  unfolding loss_row side_cell
  cluster-d_delay k within =
      elim (cases_Bool (eqb (sum_by d_count_at (list_at m.plan.clusters.starts k)) (sum_by d_count_at (list_at m.plan.clusters.ends k)))) [
        | inl even ↦ rw even (offsets-tell d m events captures flow block lawful of recorded (sends_delayed d.times flow block)
            (delayed-only d.times flow block) d_count_at d_sum_at counts-delayed readings-delayed k within
            (eqb-true (sum_by d_count_at (list_at m.plan.clusters.starts k)) (sum_by d_count_at (list_at m.plan.clusters.ends k)) even))
        | inr odd ↦ rw odd tt
      ]

  -- and of the network's row
  pub network-delay : IfSome (loss_row m Network flow block).delay (λ delay.
      DifferByAtMost delay (total_on_way d.links (sends d.times flow block) events)
      ((loss_row m Network flow block).left * d.times.skew))
  unfolding loss_row side_cell
  network-delay =
      elim (cases_Bool (eqb (sum_by count_at m.plan.entries) (sum_by count_at m.plan.exits))) [
        | inl even ↦ rw even (way-tells d m events captures flow block lawful of recorded (sends d.times flow block)
            (sends-only d.times flow block) count_at sum_at counts-all readings-all
            (eqb-true (sum_by count_at m.plan.entries) (sum_by count_at m.plan.exits) even))
        | inr odd ↦ rw odd tt
      ]

  pub network-d_delay : IfSome (loss_row m Network flow block).d_delay (λ delay.
      DifferByAtMost delay (total_on_way d.links (sends_delayed d.times flow block) events)
      ((loss_row m Network flow block).d_left * d.times.skew))
  unfolding loss_row side_cell
  network-d_delay =
      elim (cases_Bool (eqb (sum_by d_count_at m.plan.entries) (sum_by d_count_at m.plan.exits))) [
        | inl even ↦ rw even (way-tells d m events captures flow block lawful of recorded (sends_delayed d.times flow block)
            (delayed-only d.times flow block) d_count_at d_sum_at counts-delayed readings-delayed
            (eqb-true (sum_by d_count_at m.plan.entries) (sum_by d_count_at m.plan.exits) even))
        | inr odd ↦ rw odd tt
      ]
