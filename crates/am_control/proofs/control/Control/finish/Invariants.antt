use Rattle.std.specs.Prelude.{IsSome}
use Rattle.am_domain.specs.Lists.{AllBelow}
use Rattle.am_control.proofs.control.Control.finish.Given as goal

-- there is a report of each node so far
abbrev pub invariant-loop-node : goal.invariant-loop-node
invariant-loop-node l = AllBelow IsSome l.node l.self.reports
