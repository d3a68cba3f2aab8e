use Rattle.am_domain.specs.Lists.{AllBelow}
use Rattle.am_domain.specs.Network.{IsAt}
use Rattle.am_domain.proofs.network.link_at.Given as goal

-- none of the links so far begins or ends at the node
abbrev pub invariant-loop-i : goal.invariant-loop-i
invariant-loop-i l = AllBelow (λ x. ¬ IsAt l.name x) l.i l.links
