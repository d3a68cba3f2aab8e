use Rattle.am_sim.specs.Measuring.{CountsFirst}
use Rattle.am_sim.proofs.measure.measure.Given as goal

-- the captures of the nodes so far were counted
abbrev pub invariant-loop-node : goal.invariant-loop-node
invariant-loop-node g l = CountsFirst l.domain l.world l.node l.fn.control.plan l.control
