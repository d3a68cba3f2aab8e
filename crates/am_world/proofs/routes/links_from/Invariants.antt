use Rattle.std.proofs.Common.{◌≡◌, eqb}
use Rattle.std.specs.Prelude.{filter}
use Rattle.std.specs.List.{range_with_len}
use Rattle.am_graph.specs.Graphs.{start_of}
use Rattle.am_world.proofs.routes.links_from.Given as goal

abbrev pub invariant-loop-link : goal.invariant-loop-link
invariant-loop-link l = l.list.items ≡ filter (λ link. eqb (start_of l.links link) l.node) (range_with_len 0 l.link)
