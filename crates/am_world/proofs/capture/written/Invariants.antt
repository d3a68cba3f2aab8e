use Rattle.am_world.proofs.WritingLemmas.{IsWritten}
use Rattle.am_world.proofs.capture.written.Given as goal

abbrev pub invariant-loop-event : goal.invariant-loop-event
invariant-loop-event l = IsWritten l.domain l.events l.node l.event-index l.capture.items
