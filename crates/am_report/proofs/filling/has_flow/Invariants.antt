use Rattle.std.proofs.Common.{◌≢◌}
use Rattle.am_domain.specs.Lists.{AllBelow}
use Rattle.am_report.proofs.filling.has_flow.Given as goal

-- none of the flows so far has the name
abbrev pub invariant-loop-i : goal.invariant-loop-i
invariant-loop-i l = AllBelow (λ f. f.name ≢ l.name) l.i l.flows
