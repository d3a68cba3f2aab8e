use Rattle.std.proofs.Common.{arith}
use Rattle.am_world.proofs.SendingLemmas.{sendings-step}
use Rattle.am_world.proofs.capture.sendings_of.Goals as goal

pub loop-event-preserved : goal.loop-event-preserved
loop-event-preserved c = record {
  sendings_are = sendings-step c.args.domain.now c.args.events.now c.loop-event.event-index _ c.loop-event.sendings
      c.note.new.sendings (omega arith) c.in_ok-note.ensures.noted c.loop-event.invariant.sendings_are;
  flows_there = c.in_ok-note.ensures.flows c.loop-event.invariant.flows_there;
}
