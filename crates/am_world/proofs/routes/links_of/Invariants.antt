use Rattle.std.proofs.Common.{◌≡◌, map}
use Rattle.std.specs.List.{range_with_len}
use Rattle.am_world.specs.Generating.{links_from}
use Rattle.am_world.proofs.routes.links_of.Given as goal

abbrev pub invariant-loop-node : goal.invariant-loop-node
invariant-loop-node l = map (λ v. v.items) l.lists.items ≡ map (links_from l.links) (range_with_len 0 l.node)
