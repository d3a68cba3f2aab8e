use Rattle.std.proofs.Common.{◌≡◌}
use Rattle.am_domain.specs.Network.{has_links_in}
use Rattle.am_control.specs.Plans.{nodes_without}
use Rattle.am_world.proofs.routes.entries_of.Given as goal

abbrev pub invariant-loop-node : goal.invariant-loop-node
invariant-loop-node l = l.entries.items ≡ nodes_without (has_links_in l.links) l.node
