-- The first flow that holds the addresses, of those with the lengths so far.
use Rattle.am_domain.proofs.IndexLemmas.{IsFirstSoFar}
use Rattle.am_domain.proofs.index.look_up.Given as goal

abbrev pub invariant-loop-lengths : goal.invariant-loop-lengths
invariant-loop-lengths l = IsFirstSoFar l.flows l.source.0 l.destination.0 l.index.lengths.items l.lengths-index l.first
