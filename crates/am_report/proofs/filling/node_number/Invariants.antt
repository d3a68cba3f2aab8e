use Rattle.std.proofs.Common.{◌≢◌}
use Rattle.am_domain.specs.Lists.{AllBelow}
use Rattle.am_report.proofs.filling.node_number.Given as goal

-- none of the nodes so far has the name
abbrev pub invariant-loop-i : goal.invariant-loop-i
invariant-loop-i l = AllBelow (λ n. n.name ≢ l.name) l.i l.nodes
