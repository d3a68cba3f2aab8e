use Rattle.std.proofs.Common.{ℕ}
use Rattle.am_shared.specs.Passes.{IsOf}
use Rattle.am_packet_tests.proofs.shared.add_thousand.Given as goal

-- the pass stays one of the tally
abbrev pub invariant-loop-number : goal.invariant-loop-number
invariant-loop-number l = IsOf l.tally l.pass
