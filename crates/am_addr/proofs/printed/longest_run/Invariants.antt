use Rattle.std.proofs.Common.{◌≡◌, ◌+◌, ◌≤◌, length, take, drop, replicate}
use Rattle.am_addr.specs.Print.{IsBestBelow}
use Rattle.am_addr.proofs.printed.longest_run.Given as goal

abbrev pub invariant-loop-place : goal.invariant-loop-place
invariant-loop-place l =
    (l.at ≤ l.place) × (l.at + l.count ≤ length l.values) × (take l.count (drop l.at l.values) ≡ replicate l.count 0) × IsBestBelow l.values l.place l.at l.count
