use Rattle.std.proofs.Common.{◌≡◌, ◌∙◌, ◌+◌, ◌-◌, ◌*◌, length, subst}
use Rattle.am_control.specs.Rows.{loss_rows}
use Rattle.am_control.specs.Controls.{measured_of}
use Rattle.am_control.proofs.RowLemmas.{rows-counted}
use Rattle.am_control.proofs.closed.Closed.rows.Goals as goal

pub returns : goal.returns
returns c =
    let m = measured_of c.self.inside.control.now in
    subst (λ m. (c.from-scopes.result + 1) * c.from.result * (c.end.result - c.first.result) ≡ length (loss_rows m)) c.self.view_is
    (rows-counted m c.from-scopes.result c.from.result c.first.result c.end.result
    (c.from-scopes.ensures ∙ c.clusters.ensures.value) (c.from.ensures ∙ c.flows.ensures.value) c.first.ensures.value c.end.ensures.value)
