use Rattle.std.proofs.Common.{◌≡◌, ◌∙◌, Some, ap, subst}
use Rattle.am_control.specs.Controls.{IsControl, report_at}
use Rattle.am_control.proofs.ReportLemmas.{report-there, has-cell, measured-there}
use Rattle.am_control.proofs.control.Control.cell.Goals as goal

pub get-requires : goal.get-requires
get-requires c =
    let reports = ap (λ v. v.reports) c.self.view_is in
    let here : report_at c.args.self.now c.args.node ≡ Some c.in-Some.cells
    = report-there c.args.self.now.reports c.args.node c.index.result.now c.in-Some.cells c.requires.node (cc (c.index.ensures, reports)) c.in-Some.is in
    let control : IsControl c.args.self.now = subst (λ v. IsControl v) c.self.view_is c.self.invariant in
    has-cell c.args.self.now.plan c.in-Some.cells c.args.flow c.args.block (control.shaped c.args.node c.in-Some.cells here) c.requires.there

pub returns-clause-value : goal.returns-clause-value
returns-clause-value c =
    let reports = ap (λ v. v.reports) c.self.view_is in
    let here : report_at c.args.self.now c.args.node ≡ Some c.in-Some.cells
    = report-there c.args.self.now.reports c.args.node c.index.result.now c.in-Some.cells c.requires.node (cc (c.index.ensures, reports)) c.in-Some.is in
    c.get.ensures.value ∙ measured-there c.args.self.now c.args.node c.in-Some.cells c.args.flow c.args.block here
