use Rattle.std.proofs.Common.{◌≡◌, None, replicate}
use Rattle.am_control.proofs.control.no_reports.Given as goal

abbrev pub invariant-loop-node : goal.invariant-loop-node
invariant-loop-node l = l.reports.items ≡ replicate l._node None
