use Rattle.std.proofs.Common.{◌≡◌, ◌∙◌, length, subst, ap, arith, slice_index}
use Rattle.am_control.specs.declared.row.Scope.TheVariants.{Cluster}
use Rattle.am_graph.specs.Clusters.{count_of}
use Rattle.am_sim.specs.Comparing.{AddsEach, row_over}
use Rattle.am_sim.proofs.ComparingLemmas.{row-wide, written-back}
use Rattle.am_sim.proofs.RowLemmas.{scope-cluster}
use Rattle.am_sim.proofs.compare.row_of.Goals as goal

pub compared-requires-clause-scope : goal.compared-requires-clause-scope
compared-requires-clause-scope c =
    let count = count_of c.args.closed.now.plan.clusters in
    rw c.from-at.ensures (scope-cluster count c.args.cluster c.requires.cluster)

pub compared-requires-clause-small : goal.compared-requires-clause-small
compared-requires-clause-small c =
    let none = c.in_ok-wide.wide.items in
    let new = c.add_each.new.sums in
    let same : length new ≡ length none = subst (λ l. length new ≡ length l) c.as_mut_slice.ensures.value c.add_each.ensures.length in
    let all : c.in_ok-wide.wide.len ≡ length none = omega (arith, c.in_ok-wide.wide.ok.0) in
    let wide : c.as_slice.result.now ≡ new = c.as_slice.ensures.value ∙ written-back c.in_ok-wide.wide.len new none same all in
    λ k.
    let most = c.add_each.ensures.most k in
    let zero_is : slice_index c.as_mut_slice.result.now k ≡ 0 = ap (λ l. slice_index l k) c.as_mut_slice.ensures.value ∙ c.in_ok-wide.ensures.none k in
    rw wide (omega (arith, most, zero_is))

pub returns : goal.returns
returns c =
    let d = c.args.domain.now in
    let m = c.args.closed.now in
    let none = c.in_ok-wide.wide.items in
    let new = c.add_each.new.sums in
    let adds : AddsEach none c.args.losses.now new = subst (λ l. AddsEach l c.args.losses.now new) c.as_mut_slice.ensures.value c.add_each.ensures.sums in
    let same : length new ≡ length none = subst (λ l. length new ≡ length l) c.as_mut_slice.ensures.value c.add_each.ensures.length in
    let all : c.in_ok-wide.wide.len ≡ length none = omega (arith, c.in_ok-wide.wide.ok.0) in
    let wide : c.as_slice.result.now ≡ new = c.as_slice.ensures.value ∙ written-back c.in_ok-wide.wide.len new none same all in
    c.compared.ensures ∙ ap (row_over d m (Cluster c.args.cluster)) wide
    ∙ row-wide d m (Cluster c.args.cluster) none c.args.losses.now new c.in_ok-wide.ensures.none adds
