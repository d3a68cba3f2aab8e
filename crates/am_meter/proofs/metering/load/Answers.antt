use Rattle.am_meter.proofs.Onward.{gave-record}
use Rattle.am_meter.proofs.Files.{loads}
use Rattle.am_meter.proofs.metering.load.Goals as goal

pub returns-in-Ok-Some-clause-loads : goal.returns-in-Ok-Some-clause-loads
returns-in-Ok-Some-clause-loads g c =
    let gave = gave-record c.next.result c.in-Ok-Some.field-0 c.in-Ok-Some.record c.args.capture.now c.next.follows.lender-at-none
    (g.S.Shelf.told c.args.shelf.now) (g.S.Shelf.told c.next.new.shelf) c.in-Ok-Some.is c.in-Ok-Some.field-0-is c.next.follows.holds-at-none in
    let number = rw c.in-Ok-Some.field-0-is at c.in-Ok-Some.ensures.number in
    let few = rw c.in-Ok-Some.field-0-is at c.in-Ok-Some.ensures.few in
    loads c.args.capture.now c.next.follows.lender-at-none (g.S.Shelf.told c.args.shelf.now) (g.S.Shelf.told c.next.new.shelf)
    c.in-Ok-Some.record c.args.head.now c.args.batch.now c.push.new.self c.push.result c.reading.result c.whole.result
    c.requires.head gave number few c.requires.few c.requires.short c.push.ensures.room c.push.ensures.pushed c.reading.ensures c.whole.ensures
