use Rattle.am_domain.specs.Lists.{DistinctBelow}
use Rattle.am_domain.proofs.repeats.repeated.Given as goal

-- no two of the items so far are the same
abbrev pub invariant-loop-second : goal.invariant-loop-second
invariant-loop-second g l = DistinctBelow g.S.Sameness.same l.second l.items
