use Rattle.am_world.specs.Breaches.{AreOver}
use Rattle.am_world.proofs.check.first_unfinished.Given as goal

abbrev pub invariant-loop-k : goal.invariant-loop-k
invariant-loop-k l = AreOver l.domain l.events l.k
