use Rattle.am_domain.specs.Lists.{AllBelow}
use Rattle.am_domain.specs.Network.{HasLink}
use Rattle.am_domain.proofs.network.lone_node.Given as goal

-- each node so far has a link
abbrev pub invariant-loop-i : goal.invariant-loop-i
invariant-loop-i l = AllBelow (HasLink l.links) l.i l.nodes
