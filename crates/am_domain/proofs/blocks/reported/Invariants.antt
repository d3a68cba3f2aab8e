use Rattle.std.proofs.Common.{◌≤◌, ◌<◌, ◌↔◌, ℕ}
use Rattle.am_domain.specs.Network.{StartsBelow, EndsBelow}
use Rattle.am_domain.proofs.blocks.reported.Given as goal

-- the blocks that begin and that end within the spans of the nodes so far
abbrev pub invariant-loop-i : goal.invariant-loop-i
invariant-loop-i l =
    ((n : ℕ) → (l.first ≤ n) ↔ StartsBelow l.timing l.nodes l.edges l.i n) × ((n : ℕ) → (n < l.end) ↔ EndsBelow l.timing l.nodes l.edges l.i n)
