use Rattle.am_world.proofs.BreachLemmas.{IsSeen}
use Rattle.am_world.proofs.check.first_broken.Given as goal

abbrev pub invariant-loop-k : goal.invariant-loop-k
invariant-loop-k l = IsSeen l.domain l.events l.k l.trips
