use Rattle.am_domain.specs.Lists.{AllBelow}
use Rattle.am_domain.specs.Rules.{EndsDiffer}
use Rattle.am_domain.proofs.network.self_link.Given as goal

-- each link so far leads from one node to another
abbrev pub invariant-loop-i : goal.invariant-loop-i
invariant-loop-i l = AllBelow EndsDiffer l.i l.links
