use Rattle.std.proofs.Common.{◌≡◌, false}
use Rattle.am_network_tests.proofs.meter.marked_records_are_given_in_order.Given as goal

-- the stream goes on
abbrev pub invariant-loop-wanted : goal.invariant-loop-wanted
invariant-loop-wanted g l = record { going : l.stream.over ≡ false }
