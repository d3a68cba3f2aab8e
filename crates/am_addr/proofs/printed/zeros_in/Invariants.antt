use Rattle.std.proofs.Common.{◌≡◌, take, replicate}
use Rattle.am_addr.proofs.printed.zeros_in.Given as goal

abbrev pub invariant-loop-place : goal.invariant-loop-place
invariant-loop-place l = take l.place l.values ≡ replicate l.place 0
