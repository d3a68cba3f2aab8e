use Rattle.std.proofs.Common.{◌≡◌, ℕ, ◌<◌, length, get_or}
use Rattle.am_graph.specs.Lists.{list_at, IsListOf}
use Rattle.am_graph.proofs.place.place_links.Given as goal

-- the links so far stand in the lists of their clusters
abbrev pub invariant-loop-k : goal.invariant-loop-k
invariant-loop-k l = record {
  each : length l.lists ≡ l.count;
  value : (c : ℕ) → c < length l.lists → IsListOf (λ x. (x < l.k) × (get_or l.of_link x 0 ≡ c)) (list_at l.lists c);
}
