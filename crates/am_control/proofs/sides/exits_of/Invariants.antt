use Rattle.std.proofs.Common.{◌≡◌}
use Rattle.am_domain.specs.Network.{has_links_out}
use Rattle.am_control.specs.Plans.{nodes_without}
use Rattle.am_control.proofs.sides.exits_of.Given as goal

abbrev pub invariant-loop-node : goal.invariant-loop-node
invariant-loop-node l = l.exits.items ≡ nodes_without (has_links_out l.edges) l.node
