use Rattle.am_domain.specs.Lists.{AllBelow}
use Rattle.am_domain.specs.Lookups.{Holds}
use Rattle.am_domain.proofs.index.look_at_each.Given as goal

-- none of the flows so far holds the addresses
abbrev pub invariant-loop-at : goal.invariant-loop-at
invariant-loop-at l = AllBelow (λ f. ¬ Holds l.source.0 l.destination.0 f) l.at l.flows
