use Rattle.std.proofs.Common.{◌<◌, length, sym, ap, subst, arith}
use Rattle.am_control.specs.Controls.{IsComplete, IsMeasuredBy}
use Rattle.am_control.proofs.ReportLemmas.{complete-measured, none-there}
use Rattle.am_control.proofs.control.Control.finish.Goals as goal

pub returns-then-is_none-clause-missing : goal.returns-then-is_none-clause-missing
returns-then-is_none-clause-missing c =
    let reports = ap (λ v. v.reports) c.self.view_is in
    let long = ap length reports in
    let below : c.loop-node.node < length c.args.self.now.reports = omega arith in
    record {
      within = below;
      before = c.loop-node.invariant;
      here = λ d. none-there c.args.self.now.reports c.loop-node.node c.index.result.now d below (cc (c.index.ensures, reports)) c.if-is_none.ensures;
    }

pub returns-clause-measured : goal.returns-clause-measured
returns-clause-measured c =
    let long = ap length (ap (λ v. v.reports) c.self.view_is) in
    let all : IsComplete c.args.self.now = λ k d h. c.loop-node.invariant k d (omega arith) in
    subst (λ m. IsMeasuredBy c.args.self.now m) (sym c.of.ensures) (complete-measured c.args.self.now all)
