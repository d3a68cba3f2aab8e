use Rattle.std.proofs.Common.{◌≡◌, ℕ, ◌<◌, Some, length, get_or}
use Rattle.am_graph.specs.Graphs.{start_of}
use Rattle.am_graph.specs.Walks.{cluster_at}
use Rattle.am_graph.proofs.place.clusters_of.Given as goal

-- the clusters of the links so far
abbrev pub invariant-loop-link : goal.invariant-loop-link
invariant-loop-link l = record {
  each : length l.of_link.items ≡ l.link-index;
  value : (k : ℕ) → k < l.link-index → cluster_at l.starts (start_of l.links k) ≡ Some (get_or l.of_link.items k 0);
}
