use Rattle.std.proofs.Common.{◌≡◌, ◌∙◌, ℕ, ◌<◌, ◌+◌, ◌^◌, length, subst, ap, arith, slice_index}
use Rattle.am_control.specs.declared.row.Scope.TheVariants.{Cluster, Network}
use Rattle.am_graph.specs.Clusters.{count_of}
use Rattle.am_sim.specs.Comparing.{AddsEach, row_over}
use Rattle.am_sim.specs.Simulating.{sim_row}
use Rattle.am_sim.proofs.ComparingLemmas.{ComparesFirst, cluster-row, compares-more, counts-agree, network-row, rows-all, written-back}
use Rattle.am_sim.proofs.RowLemmas.{scope-network}
use Rattle.am_sim.proofs.compare.compare_each.Goals as goal

pub row_of-requires-clause-cluster : goal.row_of-requires-clause-cluster
row_of-requires-clause-cluster c =
    omega (
      arith,
      counts-agree c.args.domain.now c.args.closed.now c.args.world.now c.args.clusters.now c.requires.plan c.requires.clusters,
      c.loop-cluster-test.true,
      c.count-cluster-end.ensures,
    )

pub loop-cluster-preserved : goal.loop-cluster-preserved
loop-cluster-preserved c =
    let d = c.args.domain.now in
    let m = c.args.closed.now in
    let events = c.args.world.now in
    let cs = c.args.clusters.now in
    let k = c.loop-cluster.cluster in
    let within : k < count_of cs = omega (arith, c.loop-cluster-test.true, c.count-cluster-end.ensures) in
    let old = c.loop-cluster.all.items in
    let new = c.add_each.new.sums in
    let losses = c.in_ok-losses.losses.items in
    let are = c.in_ok-losses.ensures in
    let same : length new ≡ length old = subst (λ l. length new ≡ length l) c.as_mut_slice.ensures.value c.add_each.ensures.length in
    let all : c.loop-cluster.all.len ≡ length old = omega (arith, c.loop-cluster.all.ok.0) in
    let adds : AddsEach old losses new = subst (λ l. AddsEach l losses new) c.as_mut_slice.ensures.value
    (subst (λ l. AddsEach c.as_mut_slice.result.now l new) c.as_slice-in-loop-cluster.ensures.value c.add_each.ensures.sums) in
    let most = subst (λ l. (i : ℕ) → slice_index new i < slice_index l i + 2 ^ 64) c.as_mut_slice.ensures.value c.add_each.ensures.most in
    let row : c.in_ok-row_of.field-0 ≡ sim_row d m events (Cluster k)
    = c.in_ok-row_of.ensures ∙ ap (row_over d m (Cluster k)) c.as_slice.ensures.value
    ∙ cluster-row d m events cs c.requires.plan c.requires.clusters k losses within are in
    rw (written-back c.loop-cluster.all.len new old same all, c.in_ok-push.ensures.items)
    (compares-more d m events cs c.requires.plan c.requires.clusters k old losses new c.loop-cluster.rows.items c.in_ok-row_of.field-0
    c.loop-cluster.invariant are most same adds row)

pub compared-requires-clause-within : goal.compared-requires-clause-within
compared-requires-clause-within c =
    omega (
      arith,
      counts-agree c.args.domain.now c.args.closed.now c.args.world.now c.args.clusters.now c.requires.plan c.requires.clusters,
      c.count.ensures,
      c.from-at.ensures,
    )

pub compared-requires-clause-scope : goal.compared-requires-clause-scope
compared-requires-clause-scope c =
    let is = c.from-at.ensures ∙ c.count.ensures
    ∙ counts-agree c.args.domain.now c.args.closed.now c.args.world.now c.args.clusters.now c.requires.plan c.requires.clusters in
    rw is (scope-network (count_of c.args.closed.now.plan.clusters))

pub returns : goal.returns
returns c =
    let d = c.args.domain.now in
    let m = c.args.closed.now in
    let events = c.args.world.now in
    let cs = c.args.clusters.now in
    let sums = c.loop-cluster.all.items in
    let rows = c.loop-cluster.rows.items in
    let end : c.loop-cluster.cluster ≡ count_of cs = omega (arith, c.loop-cluster-test.false, c.loop-cluster.auto.cluster-end, c.count-cluster-end.ensures) in
    let first : ComparesFirst d m events cs (count_of cs) sums rows = subst (λ n. ComparesFirst d m events cs n sums rows) end c.loop-cluster.invariant in
    let row : c.compared.result ≡ sim_row d m events Network
    = c.compared.ensures ∙ ap (row_over d m Network) c.as_slice-2.ensures.value
    ∙ network-row d m events cs c.requires.plan c.requires.clusters sums first.sums_are in
    c.in_ok-push-2.ensures.items ∙ rows-all d m events cs c.requires.plan c.requires.clusters sums rows c.compared.result first row
