use Rattle.std.proofs.Common.{◌≡◌, ◌∙◌, ◌+◌, ◌-◌, ◌/◌, ◌%◌, ◌<◌, get_or, refl, sym, ap, arith}
use Rattle.am_graph.specs.Clusters.{count_of}
use Rattle.am_control.specs.declared.row.Scope.TheVariants.{Cluster, Network}
use Rattle.am_control.specs.Rows.{loss_row, scopes}
use Rattle.am_control.proofs.RowLemmas.{row-at, scope-within, scope-cluster, scope-last}
use Rattle.am_control.proofs.closed.Closed.row.Goals as goal

pub returns-then-scope-from-clause-value : goal.returns-then-scope-from-clause-value
returns-then-scope-from-clause-value c =
    let m = c.args.self.now in
    let flows = c.from-flows.result in
    let blocks = c.end.result - c.first.result in
    let scope = c.args.k / blocks / flows in
    let flow = c.args.k / blocks % flows in
    let count = count_of m.plan.clusters in
    let ef : flows ≡ m.plan.flows = c.from-flows.ensures ∙ c.flows.ensures.value ∙ ap (λ m. m.plan.flows) c.self.view_is in
    let from : c.first.result ≡ m.plan.first = c.first.ensures.value ∙ ap (λ m. m.plan.first) c.self.view_is in
    let until : c.end.result ≡ m.plan.end = c.end.ensures.value ∙ ap (λ m. m.plan.end) c.self.view_is in
    let again : c.first-2.result ≡ m.plan.first = c.first-2.ensures.value ∙ ap (λ m. m.plan.first) c.self.view_is in
    let all : c.from.result ≡ count = c.from.ensures ∙ c.clusters.ensures.value ∙ ap (λ m. count_of m.plan.clusters) c.self.view_is in
    let here : get_or (scopes count) scope Network ≡ Cluster scope = scope-cluster count scope (omega (arith, all, c.if-scope-from.true)) in
    row-at m c.args.k flows blocks c.row_at.result ef (rw (from, until) refl) (omega arith) (omega arith) c.requires
    (c.row_at.ensures.value ∙ ap (λ s. loss_row m s flow (c.first-2.result + c.args.k % blocks)) (sym here)
    ∙ ap (λ b. loss_row m (get_or (scopes count) scope Network) flow (b + c.args.k % blocks)) again)

pub returns-clause-value : goal.returns-clause-value
returns-clause-value c =
    let m = c.args.self.now in
    let flows = c.from-flows.result in
    let blocks = c.end.result - c.first.result in
    let scope = c.args.k / blocks / flows in
    let flow = c.args.k / blocks % flows in
    let count = count_of m.plan.clusters in
    let ef : flows ≡ m.plan.flows = c.from-flows.ensures ∙ c.flows.ensures.value ∙ ap (λ m. m.plan.flows) c.self.view_is in
    let from : c.first.result ≡ m.plan.first = c.first.ensures.value ∙ ap (λ m. m.plan.first) c.self.view_is in
    let until : c.end.result ≡ m.plan.end = c.end.ensures.value ∙ ap (λ m. m.plan.end) c.self.view_is in
    let again : c.first-2.result ≡ m.plan.first = c.first-2.ensures.value ∙ ap (λ m. m.plan.first) c.self.view_is in
    let all : c.from.result ≡ count = c.from.ensures ∙ c.clusters.ensures.value ∙ ap (λ m. count_of m.plan.clusters) c.self.view_is in
    let eb : blocks ≡ m.plan.end - m.plan.first = rw (from, until) refl in
    let below : scope < count + 1 = scope-within m c.args.k flows blocks ef eb (omega arith) (omega arith) c.requires in
    let here : get_or (scopes count) scope Network ≡ Network = scope-last count scope (omega (arith, all, c.if-scope-from.false)) below in
    row-at m c.args.k flows blocks c.row_at-2.result ef eb (omega arith) (omega arith) c.requires
    (c.row_at-2.ensures.value ∙ ap (λ s. loss_row m s flow (c.first-2.result + c.args.k % blocks)) (sym here)
    ∙ ap (λ b. loss_row m (get_or (scopes count) scope Network) flow (b + c.args.k % blocks)) again)
