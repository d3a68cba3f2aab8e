use Rattle.std.proofs.Common.{arith, refl, sym, ◌∙◌}
use Rattle.am_pcap.specs.Seeking.{reading_with}
use Rattle.am_pcap.proofs.SeekSteps.{none-waits, found-drained, continued-refilled, refill-fails, refused-drained, ended, ended-cut}
use Rattle.am_pcap.proofs.seeking.seek_step.Goals as goal

pub returns-in-Err-clause-refused : goal.returns-in-Err-clause-refused
returns-in-Err-clause-refused g c =
    refused-drained (reading_with c.args.decoder.now c.args.held.now c.args.read.now) (g.S.Shelf.told c.args.shelf.now) c.in-Err.error c.requires.order c.in-Err.ensures.refused

pub returns-then-is_waiting-clause-steps : goal.returns-then-is_waiting-clause-steps
returns-then-is_waiting-clause-steps g c =
    found-drained (reading_with c.args.decoder.now c.args.held.now c.args.read.now) c.drain.new.decoder c.drain.new.held (g.S.Shelf.told c.args.shelf.now)
    c.requires.order c.in-Ok.ensures.drains (c.if-is_waiting.ensures.0 refl)

pub returns-in-Ok-true-clause-steps : goal.returns-in-Ok-true-clause-steps
returns-in-Ok-true-clause-steps g c =
    let more = c.in-Ok-true.ensures.more c.in-Ok-true.field-0-test in (
      continued-refilled (reading_with c.args.decoder.now c.args.held.now c.args.read.now) c.drain.new.decoder c.drain.new.held c.refill.new.held c.refill.new.read
          (g.S.Shelf.told c.args.shelf.now) (g.S.Shelf.told c.refill.new.shelf)
          c.requires.order c.in-Ok.ensures.drains (none-waits c.drain.new.decoder.waiting c.if-is_waiting.ensures.1)
          c.in-Ok-true.ensures.taken c.in-Ok-true.ensures.read c.in-Ok-true.ensures.short,
      omega (arith, more, c.in-Ok-true.ensures.read),
    )

pub returns-in-Err-refill-clause-refused : goal.returns-in-Err-refill-clause-refused
returns-in-Err-refill-clause-refused g c =
    refill-fails (reading_with c.args.decoder.now c.args.held.now c.args.read.now) c.drain.new.decoder c.drain.new.held (g.S.Shelf.told c.args.shelf.now) (g.S.Shelf.told c.refill.new.shelf)
    c.in-Err-refill.error c.requires.order c.in-Ok.ensures.drains (none-waits c.drain.new.decoder.waiting c.if-is_waiting.ensures.1) c.in-Err-refill.ensures.fails

pub returns-in-Ok-finish-clause-steps : goal.returns-in-Ok-finish-clause-steps
returns-in-Ok-finish-clause-steps g c =
    let end = c.in-Ok-false.ensures.end c.in-Ok-false.field-0-test in
    ended (reading_with c.args.decoder.now c.args.held.now c.args.read.now) c.drain.new.decoder c.drain.new.held c.refill.new.held (g.S.Shelf.told c.args.shelf.now) (g.S.Shelf.told c.refill.new.shelf)
    c.in-Ok-finish.field-0 c.requires.order c.in-Ok.ensures.drains (none-waits c.drain.new.decoder.waiting c.if-is_waiting.ensures.1) c.in-Ok-false.ensures.taken end.0 end.1
    (sym c.in-Ok-finish.is ∙ c.finish.ensures.value)

pub returns-in-Err-finish-clause-refused : goal.returns-in-Err-finish-clause-refused
returns-in-Err-finish-clause-refused g c =
    let end = c.in-Ok-false.ensures.end c.in-Ok-false.field-0-test in
    ended-cut (reading_with c.args.decoder.now c.args.held.now c.args.read.now) c.drain.new.decoder c.drain.new.held c.refill.new.held (g.S.Shelf.told c.args.shelf.now) (g.S.Shelf.told c.refill.new.shelf)
    c.in-Err-finish.error c.requires.order c.in-Ok.ensures.drains (none-waits c.drain.new.decoder.waiting c.if-is_waiting.ensures.1) c.in-Ok-false.ensures.taken end.0 end.1
    (sym c.in-Err-finish.is ∙ c.finish.ensures.value)
