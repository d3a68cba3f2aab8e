use Rattle.std.proofs.Common.{arith}
use Rattle.am_world.proofs.WritingLemmas.{written-more, written-all}
use Rattle.am_world.proofs.capture.written.Goals as goal

pub loop-event-preserved : goal.loop-event-preserved
loop-event-preserved c =
    written-more c.args.domain.now c.args.events.now c.args.node c.loop-event.event-index _ _ c.loop-event.capture.items
    c.put_event.new.capture.items (omega arith) (c.requires.sendings _) c.in_ok-put_event.ensures.bytes c.in_ok-put_event.ensures.sized
    c.loop-event.invariant

pub returns-clause-bytes : goal.returns-clause-bytes
returns-clause-bytes c =
    (written-all c.args.domain.now c.args.events.now c.args.node c.loop-event.event-index c.loop-event.capture.items (omega arith)
    c.loop-event.invariant).bytes_are

pub returns-clause-sized : goal.returns-clause-sized
returns-clause-sized c =
    (written-all c.args.domain.now c.args.events.now c.args.node c.loop-event.event-index c.loop-event.capture.items (omega arith)
    c.loop-event.invariant).sized
