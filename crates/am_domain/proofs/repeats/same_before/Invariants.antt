use Rattle.std.proofs.Common.{slice_index_or}
use Rattle.am_domain.specs.Lists.{AllBelow}
use Rattle.am_domain.proofs.repeats.same_before.Given as goal

-- none of the items so far is the same
abbrev pub invariant-loop-first : goal.invariant-loop-first
invariant-loop-first g l = (d : g.row.T.Denot) → AllBelow (λ x. ¬ g.S.Sameness.same x (slice_index_or l.items l.second d)) l.first l.items
