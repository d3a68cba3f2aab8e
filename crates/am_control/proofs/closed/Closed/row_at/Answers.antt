use Rattle.std.proofs.Common.{◌≡◌, ◌∙◌, ap, subst}
use Rattle.am_control.specs.Controls.{measured_of}
use Rattle.am_control.specs.Rows.{loss_row, side_cell}
use Rattle.am_control.proofs.ReportLemmas.{row-made}
use Rattle.am_control.proofs.closed.Closed.row_at.Goals as goal

pub returns-clause-value : goal.returns-clause-value
returns-clause-value c =
    let m = measured_of c.self.inside.control.now in
    let side = side_cell m.cells c.args.flow c.args.block in
    subst (λ m. c.row_of.result ≡ loss_row m c.args.scope c.args.flow c.args.block) c.self.view_is
    (c.row_of.ensures ∙ row-made m c.args.scope c.args.flow c.args.block c.passed-came.result c.passed-went.result
    (c.passed-came.ensures.value ∙ ap side c.entering.ensures.value) (c.passed-went.ensures.value ∙ ap side c.leaving.ensures.value))
