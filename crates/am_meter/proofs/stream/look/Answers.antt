use Rattle.am_meter.proofs.Onward.{looks, gave-record}
use Rattle.am_meter.proofs.stream.look.Goals as goal

pub returns-in-Ok-Some-clause-looks : goal.returns-in-Ok-Some-clause-looks
returns-in-Ok-Some-clause-looks g c =
    let gave = gave-record c.next.result c.in-Ok-Some.field-0 c.in-Ok-Some.record c.args.capture.now c.next.follows.lender-at-none
    (g.S.Shelf.told c.args.shelf.now) (g.S.Shelf.told c.next.new.shelf) c.in-Ok-Some.is c.in-Ok-Some.field-0-is c.next.follows.holds-at-none in
    let number = rw c.in-Ok-Some.field-0-is at c.in-Ok-Some.ensures.number in
    let few = rw c.in-Ok-Some.field-0-is at c.in-Ok-Some.ensures.few in
    looks c.args.place c.args.capture.now c.next.follows.lender-at-none (g.S.Shelf.told c.args.shelf.now) (g.S.Shelf.told c.next.new.shelf)
    c.in-Ok-Some.record c.head-head.result c.seen_of.result c.head-head.ensures gave number few c.seen_of.ensures
