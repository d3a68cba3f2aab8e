use Rattle.std.proofs.Common.{◌≡◌, ◌≤◌, length}
use Rattle.am_graph.specs.Walks.{AreFound}
use Rattle.am_graph.proofs.find.walk_all.Given as goal

-- the clusters of the links so far are found
abbrev pub invariant-loop-k : goal.invariant-loop-k
invariant-loop-k l = record {
  starts_each : length l.starts.items ≡ l.graph.nodes;
  ends_each : length l.ends.items ≡ l.graph.nodes;
  few : l.count ≤ l.k;
  found : AreFound l.graph.links l.k l.count l.starts.items l.ends.items;
}
