use Rattle.am_meter.proofs.Counts.{CountsFront}
use Rattle.am_meter.proofs.counting.count_batch.Given as goal

-- the marked records of the first so many were counted
abbrev pub invariant-loop-at : goal.invariant-loop-at
invariant-loop-at l = CountsFront l.domain l.node l.batch l.at l.fn.cells l.cells
