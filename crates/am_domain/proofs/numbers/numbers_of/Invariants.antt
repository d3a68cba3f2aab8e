-- The numbers so far are those of the flows so far, in the file's order.
use Rattle.am_domain.proofs.NumberLemmas.{AreFirst}
use Rattle.am_domain.proofs.numbers.numbers_of.Given as goal

abbrev pub invariant-loop-i : goal.invariant-loop-i
invariant-loop-i l = AreFirst l.flows l.numbers.items l.i
