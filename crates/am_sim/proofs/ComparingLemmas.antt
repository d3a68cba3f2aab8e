-- The rows of the first clusters, and what all of them lose together.
use Rattle.std.proofs.Common.{◌≡◌, ◌∙◌, ℕ, zero, suc, ◌+◌, ◌*◌, ◌^◌, ◌<◌, ◌≤◌, List, [], ◌∷◌, ◌++◌, length, get_or, take, drop, map, sym, ap, arith, slice_index}
use Rattle.std.specs.Prelude.{All, sum_by}
use Rattle.std.specs.List.{range_with_len}
use Rattle.std.proofs.lemmas.List.{append-nil, drop_all, map-append, take_all}
use Rattle.std.proofs.lemmas.Simd.{map-map}
use Rattle.std.proofs.lemmas.List.Elements.{All-weaker}
use Rattle.std.proofs.lemmas.List.Sums.{sum_by-append, sum_by-cons}
use Rattle.am_control.specs.Plans.{IsPlanOf}
use Rattle.am_control.specs.Rows.{Measured, scope_rows}
use Rattle.am_control.specs.declared.row.Scope.{Scope}
use Rattle.am_control.specs.declared.row.Scope.TheVariants.{Cluster, Network}
use Rattle.am_control.specs.declared.row.LossRow.{LossRow}
use Rattle.am_domain.specs.Domains.{DomainValue, Reports}
use Rattle.am_graph.specs.Graphs.{graph_of}
use Rattle.am_graph.specs.Clusters.{ClustersValue, AreClusters, count_of}
use Rattle.am_world.specs.declared.event.Event.{Event}
use Rattle.am_world.specs.Drops.{dropped_in}
use Rattle.am_world.specs.Passes.{sends}
use Rattle.am_world.specs.TrueLosses.{AreLosses, HasEach, loss_number}
use Rattle.am_sim.specs.declared.row.SimRow.{SimRow}
use Rattle.am_sim.specs.Comparing.{AddsEach, loss_in, row_over}
use Rattle.am_sim.specs.Simulating.{agree, dropped_of, row_of, sim_row, sim_rows}
use Rattle.am_sim.proofs.ClusterLemmas.{same-count, dropped-same, dropped-all-same}
use Rattle.am_sim.proofs.RowLemmas.{IsRowOf, rows-of-scope}
use Rattle.am_sim.proofs.SumLemmas.{sum-agree, count-agree}

-- a run with one more number
run-from : (a n : ℕ) → range_with_len a (suc n) ≡ range_with_len a n ++ (a + n) ∷ []
run-from a zero = let e : a ≡ a + 0 = omega arith in ap (λ k. k ∷ []) e
run-from a (suc n) =
    let e : a + 1 + n ≡ a + suc n = omega arith in
    ap (λ ks. a ∷ ks) (run-from (a + 1) n) ∙ ap (λ k. a ∷ (range_with_len (a + 1) n ++ k ∷ [])) e

run-more : (n : ℕ) → range_with_len 0 (n + 1) ≡ range_with_len 0 n ++ n ∷ []
run-more n =
    let e : n + 1 ≡ suc n = omega arith in
    let z : 0 + n ≡ n = omega arith in
    ap (λ k. range_with_len 0 k) e ∙ run-from 0 n ∙ ap (λ k. range_with_len 0 n ++ k ∷ []) z

-- these are the sums of the losses of the first clusters
pub record AreSums (d : DomainValue) (c : ClustersValue) (events : List Event) (count : ℕ) (sums : List ℕ) : Type 0 where
  pub each : HasEach d sums
  pub sum : (flow block : ℕ) → flow < length d.flows → Reports d block
      → slice_index sums (loss_number d flow block)
      ≡ sum_by (λ k. dropped_in d.links c k (sends d.times flow block) events) (range_with_len 0 count)
  pub small : (k : ℕ) → slice_index sums k ≤ count * 2 ^ 64

-- the rows of the first clusters are there
pub record ComparesFirst (d : DomainValue) (m : Measured) (events : List Event) (c : ClustersValue) (count : ℕ)
    (sums : List ℕ) (rows : List SimRow) : Type 0 where
  pub sums_are : AreSums d c events count sums
  pub rows_are : rows ≡ map (λ k. sim_row d m events (Cluster k)) (range_with_len 0 count)

-- a slice that was written over all of its vector
pub written-back : {X : Type 0} (len : ℕ) (new old : List X) → length new ≡ length old → len ≡ length old
    → take len (new ++ drop (length new) old) ≡ new
written-back len new old same all =
    let none : drop (length new) old ≡ [] = drop_all (length new) old (omega (arith, same)) in
    ap (λ xs. take len (new ++ xs)) none ∙ ap (take len) (append-nil new) ∙ take_all len new (omega (arith, same, all))

-- rows over equal losses are equal
row-same : (scope : Scope) (f g : LossRow → ℕ) (rows : List LossRow) → All (λ r. f r ≡ g r) rows → row_of scope f rows ≡ row_of scope g rows
row-same scope f g rows each =
    let sums = sum-agree f g rows each in
    let same = count-agree (λ r. agree r.lost (f r)) (λ r. agree r.lost (g r)) rows
    (All-weaker (λ r. f r ≡ g r) (λ r. agree r.lost (f r) ≡ agree r.lost (g r)) (λ r h. ap (λ n. agree r.lost n) h) rows each) in
    cc (sums, same)

-- losses that are the same
pub row-wide : (d : DomainValue) (m : Measured) (scope : Scope) (none losses wide : List ℕ)
    → ((k : ℕ) → slice_index none k ≡ 0) → AddsEach none losses wide → row_over d m scope wide ≡ row_over d m scope losses
row-wide d m scope none losses wide empty adds =
    row-same scope (loss_in d wide) (loss_in d losses) (scope_rows m scope)
    (λ k r h. let i = loss_number d (get_or (scope_rows m scope) k r).flow (get_or (scope_rows m scope) k r).block in
    omega (arith, adds i, empty i))

module _ (d : DomainValue) (m : Measured) (events : List Event) (c : ClustersValue) (planned : IsPlanOf d m.plan) (of : AreClusters (graph_of d) c) where
  -- where the losses are those dropped in the scope, the row over them is that of the scope
  row-is : (scope : Scope) (losses : List ℕ)
      → ((flow block : ℕ) → flow < length d.flows → Reports d block
      → slice_index losses (loss_number d flow block) ≡ dropped_of d m.plan.clusters events scope flow block)
      → row_over d m scope losses ≡ sim_row d m events scope
  row-is scope losses are =
      row-same scope (loss_in d losses) (λ r. dropped_of d m.plan.clusters events scope r.flow r.block) (scope_rows m scope)
      (All-weaker (IsRowOf m scope) (λ r. loss_in d losses r ≡ dropped_of d m.plan.clusters events scope r.flow r.block)
      (λ r h. are r.flow r.block (omega (arith, h.there.flow_there, planned.flows))
      (omega (arith, h.there.from, planned.first), omega (arith, h.there.until, planned.end)))
      (scope_rows m scope) (rows-of-scope m scope))

  pub counts-agree : count_of c ≡ count_of m.plan.clusters
  counts-agree = same-count (graph_of d) c m.plan.clusters of planned.clusters

  -- the row of a cluster, over its own losses
  pub cluster-row : (k : ℕ) (losses : List ℕ) → k < count_of c
      → AreLosses d c k events losses → row_over d m (Cluster k) losses ≡ sim_row d m events (Cluster k)
  cluster-row k losses within are =
      row-is (Cluster k) losses
      (λ flow block low reports. are.dropped flow block low reports
      ∙ dropped-same (graph_of d) c m.plan.clusters of planned.clusters d.links (sends d.times flow block) events k within)

  -- the sums with the losses of one more cluster
  sums-more : (k : ℕ) (old losses new : List ℕ) → AreSums d c events k old → AreLosses d c k events losses
      → ((i : ℕ) → slice_index new i < slice_index old i + 2 ^ 64) → length new ≡ length old → AddsEach old losses new → AreSums d c events (k + 1) new
  sums-more k old losses new so are fits long adds = record {
    each = long ∙ so.each;
    sum = λ flow block low reports.
        let i = loss_number d flow block in
        let drops : ℕ → ℕ = λ n. dropped_in d.links c n (sends d.times flow block) events in
        let all : sum_by drops (range_with_len 0 (k + 1)) ≡ sum_by drops (range_with_len 0 k) + drops k
        = ap (λ ns. sum_by drops ns) (run-more k) ∙ sum_by-append drops (range_with_len 0 k) (k ∷ [])
        ∙ omega (arith, sum_by-cons drops k []) in
        omega (arith, adds i, so.sum flow block low reports, are.dropped flow block low reports, all);
    small = λ i. omega (arith, so.small i, fits i);
  }

  pub compares-more : (k : ℕ) (old losses new : List ℕ) (rows : List SimRow) (row : SimRow) → ComparesFirst d m events c k old rows
      → AreLosses d c k events losses → ((i : ℕ) → slice_index new i < slice_index old i + 2 ^ 64) → length new ≡ length old → AddsEach old losses new
      → row ≡ sim_row d m events (Cluster k) → ComparesFirst d m events c (k + 1) new (rows ++ row ∷ [])
  compares-more k old losses new rows row so are fits long adds is = record {
    sums_are = sums-more k old losses new so.sums_are are fits long adds;
    rows_are =
        let f : ℕ → SimRow = λ n. sim_row d m events (Cluster n) in
        let all : map f (range_with_len 0 (k + 1)) ≡ map f (range_with_len 0 k) ++ f k ∷ []
        = ap (map f) (run-more k) ∙ map-append f (range_with_len 0 k) (k ∷ []) in
        ap (λ rs. rs ++ row ∷ []) so.rows_are ∙ ap (λ r. map f (range_with_len 0 k) ++ r ∷ []) is ∙ sym all;
  }

  -- the row of the network, over the sums of all clusters
  pub network-row : (sums : List ℕ) → AreSums d c events (count_of c) sums → row_over d m Network sums ≡ sim_row d m events Network
  network-row sums so =
      row-is Network sums
      (λ flow block low reports. so.sum flow block low reports
      ∙ dropped-all-same (graph_of d) c m.plan.clusters of planned.clusters d.links (sends d.times flow block) events)

  -- all rows
  pub rows-all : (sums : List ℕ) (rows : List SimRow) (row : SimRow) → ComparesFirst d m events c (count_of c) sums rows
      → row ≡ sim_row d m events Network → rows ++ row ∷ [] ≡ sim_rows d m events
  rows-all sums rows row so is =
      let f : Scope → SimRow = sim_row d m events in
      let count = count_of m.plan.clusters in
      let first : rows ≡ map f (map (λ k. Cluster k) (range_with_len 0 count))
      = so.rows_are ∙ ap (λ n. map (λ k. f (Cluster k)) (range_with_len 0 n)) counts-agree
      ∙ sym (map-map f (λ k. Cluster k) (range_with_len 0 count)) in
      ap (λ rs. rs ++ row ∷ []) first ∙ ap (λ r. map f (map (λ k. Cluster k) (range_with_len 0 count)) ++ r ∷ []) is
      ∙ sym (map-append f (map (λ k. Cluster k) (range_with_len 0 count)) (Network ∷ []))
