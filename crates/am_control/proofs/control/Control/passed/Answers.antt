use Rattle.std.proofs.Common.{arith}
use Rattle.am_control.specs.Controls.{measured_of}
use Rattle.am_control.proofs.ReportLemmas.{passed-all}
use Rattle.am_control.proofs.control.Control.passed.Goals as goal

pub returns-clause-value : goal.returns-clause-value
returns-clause-value c =
    let so_far = c.loop-node.invariant in
    passed-all (measured_of c.args.self.now).cells c.args.flow c.args.block c.args.side.now c.loop-node.node-index c.loop-node.all
    (omega arith) so_far.count so_far.dcount so_far.sum so_far.dsum
