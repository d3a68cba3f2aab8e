use Rattle.std.proofs.Common.{take}
use Rattle.std.specs.List.{AllZip}
use Rattle.am_domain.specs.Lists.{AllBelow}
use Rattle.am_domain.specs.Network.{Joins, IsBetween}
use Rattle.am_domain.proofs.network.join_links.Given as goal

-- the edges so far are those of the links so far, which lead between nodes
abbrev pub invariant-loop-i : goal.invariant-loop-i
invariant-loop-i l = (AllZip (Joins l.nodes) (take l.i l.links) l.edges.items) × AllBelow (IsBetween l.nodes) l.i l.links
