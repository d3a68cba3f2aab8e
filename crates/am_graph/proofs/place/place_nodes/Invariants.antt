use Rattle.std.proofs.Common.{◌≡◌, ℕ, ◌<◌, Some, length}
use Rattle.am_graph.specs.Lists.{list_at, IsListOf}
use Rattle.am_graph.specs.Walks.{cluster_at}
use Rattle.am_graph.proofs.place.place_nodes.Given as goal

-- the nodes so far stand in the lists of their clusters
abbrev pub invariant-loop-node : goal.invariant-loop-node
invariant-loop-node l = record {
  each : length l.lists ≡ l.count;
  value : (c : ℕ) → c < length l.lists → IsListOf (λ x. (x < l.node) × (cluster_at l.clusters x ≡ Some c)) (list_at l.lists c);
}
