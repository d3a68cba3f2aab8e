use Rattle.std.proofs.Common.{◌≡◌, [], map, replicate}
use Rattle.am_graph.proofs.lists.Lists.empty.Given as goal

-- the lists so far are empty
abbrev pub invariant-loop-place : goal.invariant-loop-place
invariant-loop-place l = map (λ v. v.items) l.lists.items ≡ replicate l._place []
