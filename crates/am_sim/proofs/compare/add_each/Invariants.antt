use Rattle.std.proofs.Common.{◌≡◌, ℕ, ◌+◌, ◌<◌, ◌≤◌, length, slice_index}
use Rattle.am_sim.proofs.compare.add_each.Given as goal

-- the first so many sums rose, the others didn't
abbrev pub invariant-loop-k : goal.invariant-loop-k
invariant-loop-k l = record {
  long : length l.sums ≡ length l.initial.sums;
  rose : (j : ℕ) → j < l.k → slice_index l.sums j ≡ slice_index l.initial.sums j + slice_index l.losses j;
  same : (j : ℕ) → l.k ≤ j → slice_index l.sums j ≡ slice_index l.initial.sums j;
}
