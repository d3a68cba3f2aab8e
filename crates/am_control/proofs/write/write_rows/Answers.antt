use Rattle.std.proofs.Common.{◌≡◌, ◌∙◌, ◌+◌, take, flat_map, refl, sym, subst, arith}
use Rattle.std.proofs.lemmas.Result.{on_ok_weaker, on_err_weaker}
use Rattle.am_base.specs.Sinks.{HandsIn, BreaksOff}
use Rattle.am_graph.specs.Clusters.{count_of}
use Rattle.am_control.specs.declared.row.Scope.TheVariants.{Cluster, Network}
use Rattle.am_control.specs.Rows.{scope_rows, scopes}
use Rattle.am_control.specs.Texts.{loss_line}
use Rattle.am_control.proofs.WritingLemmas.{pieces-next, pieces-broken, pieces-done, rows-flat, cluster-at, network-at}
use Rattle.am_control.proofs.RowLemmas.{scopes-length}
use Rattle.am_control.proofs.write.write_rows.Goals as goal

pub returns-in_default-clause-front : goal.returns-in_default-clause-front
returns-in_default-clause-front g c =
    let m = c.args.closed.now in
    let line = loss_line c.args.flows.now in
    let count = count_of m.plan.clusters in
    let k = c.loop-cluster.cluster in
    let old = g.O.Sink.written c.args.out.now in
    let new = g.O.Sink.written c.write_scope.new.out in
    subst (λ t. BreaksOff old c.args.buffer.now t new) (sym (rows-flat m c.args.flows.now))
    (pieces-broken (λ scope. flat_map line (scope_rows m scope)) (scopes count) k (Cluster k)
    old (g.O.Sink.written c.loop-cluster.out) new c.args.buffer.now c.loop-cluster.buffer
    (flat_map line (scope_rows m (Cluster k))) c.loop-cluster.invariant.handed
    (cluster-at count k (omega (arith, c.clusters-cluster-end.ensures))) refl c.in_default.ensures.front)

pub loop-cluster-preserved : goal.loop-cluster-preserved
loop-cluster-preserved g c =
    let m = c.args.closed.now in
    let line = loss_line c.args.flows.now in
    let count = count_of m.plan.clusters in
    let k = c.loop-cluster.cluster in
    let old = g.O.Sink.written c.args.out.now in
    let new = g.O.Sink.written c.write_scope.new.out in
    record {
      handed = pieces-next (λ scope. flat_map line (scope_rows m scope)) (scopes count) k (Cluster k)
          old (g.O.Sink.written c.loop-cluster.out) new c.args.buffer.now c.loop-cluster.buffer c.write_scope.new.buffer
          (flat_map line (scope_rows m (Cluster k))) c.loop-cluster.invariant.handed
          (cluster-at count k (omega (arith, c.clusters-cluster-end.ensures))) refl c.in-Ok.ensures.all;
      wide = c.write_scope.ensures.wide ∙ c.loop-cluster.invariant.wide;
      room = c.write_scope.ensures.room ∙ c.loop-cluster.invariant.room;
      faults_stay = omega (arith, c.loop-cluster.invariant.faults_stay, c.write_scope.ensures.faults_stay);
    }

pub returns-clause-all : goal.returns-clause-all
returns-clause-all g c =
    let m = c.args.closed.now in
    let line = loss_line c.args.flows.now in
    let count = count_of m.plan.clusters in
    let k = c.loop-cluster.cluster in
    let old = g.O.Sink.written c.args.out.now in
    let new = g.O.Sink.written c.write_scope-2.new.out in
    let last : k ≡ count = omega (arith, c.clusters-cluster-end.ensures) in
    let before = subst (λ k. HandsIn old c.args.buffer.now (flat_map (λ scope. flat_map line (scope_rows m scope)) (take k (scopes count)))
    (g.O.Sink.written c.loop-cluster.out) c.loop-cluster.buffer) last c.loop-cluster.invariant.handed in
    on_ok_weaker c.write_scope-2.result
    (λ all. subst (λ t. HandsIn old c.args.buffer.now t new c.write_scope-2.new.buffer) (sym (rows-flat m c.args.flows.now))
    (pieces-done (λ scope. flat_map line (scope_rows m scope)) (scopes count) (count + 1) old new c.args.buffer.now c.write_scope-2.new.buffer
    (omega (arith, scopes-length count))
    (pieces-next (λ scope. flat_map line (scope_rows m scope)) (scopes count) count Network
    old (g.O.Sink.written c.loop-cluster.out) new c.args.buffer.now c.loop-cluster.buffer c.write_scope-2.new.buffer
    (flat_map line (scope_rows m Network)) before (network-at count) refl all)))
    c.write_scope-2.ensures.all

pub returns-clause-front : goal.returns-clause-front
returns-clause-front g c =
    let m = c.args.closed.now in
    let line = loss_line c.args.flows.now in
    let count = count_of m.plan.clusters in
    let k = c.loop-cluster.cluster in
    let old = g.O.Sink.written c.args.out.now in
    let new = g.O.Sink.written c.write_scope-2.new.out in
    let last : k ≡ count = omega (arith, c.clusters-cluster-end.ensures) in
    let before = subst (λ k. HandsIn old c.args.buffer.now (flat_map (λ scope. flat_map line (scope_rows m scope)) (take k (scopes count)))
    (g.O.Sink.written c.loop-cluster.out) c.loop-cluster.buffer) last c.loop-cluster.invariant.handed in
    on_err_weaker c.write_scope-2.result
    (λ front. subst (λ t. BreaksOff old c.args.buffer.now t new) (sym (rows-flat m c.args.flows.now))
    (pieces-broken (λ scope. flat_map line (scope_rows m scope)) (scopes count) count Network
    old (g.O.Sink.written c.loop-cluster.out) new c.args.buffer.now c.loop-cluster.buffer
    (flat_map line (scope_rows m Network)) before (network-at count) refl front))
    c.write_scope-2.ensures.front
