use Rattle.std.proofs.Common.{take}
use Rattle.am_world.proofs.SendingLemmas.{AreKnown}
use Rattle.am_world.proofs.capture.sendings_of.Given as goal

abbrev pub invariant-loop-event : goal.invariant-loop-event
invariant-loop-event l = AreKnown l.domain (take l.event-index l.events) l.sendings
