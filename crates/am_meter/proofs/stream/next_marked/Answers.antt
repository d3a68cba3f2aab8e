use Rattle.std.proofs.Common.{arith}
use Rattle.am_meter.proofs.Onward.{gives, passes-one, cuts, ends, stops}
use Rattle.am_meter.proofs.stream.next_marked.Goals as goal

pub records-preserved : goal.records-preserved
records-preserved g c =
    let looks = rw (c.in-Ok-Some-Unmarked.field-0-is, c.in-Ok-Some-Unmarked.field-0-0-is) at c.in-Ok-Some-Unmarked.ensures.looks in
    record {
      over = passes-one c.args.place c.args.capture.now c.records.capture c.look.new.capture (g.S.Shelf.told c.args.shelf.now) (g.S.Shelf.told c.records.shelf)
          (g.S.Shelf.told c.look.new.shelf) c.records.invariant.over looks;
      faults_stay = omega (arith, c.records.invariant.faults_stay, c.in-Ok-Some-Unmarked.ensures.faults_stay);
      missed_stay = omega (arith, c.records.invariant.missed_stay, c.in-Ok-Some-Unmarked.ensures.missed_stay);
    }

pub returns-in-Ok-Some-Marked-clause-gives : goal.returns-in-Ok-Some-Marked-clause-gives
returns-in-Ok-Some-Marked-clause-gives g c =
    let looks = rw (c.in-Ok-Some-Marked.field-0-is, c.in-Ok-Some-Marked.field-0-0-is) at c.in-Ok-Some-Marked.ensures.looks in
    gives c.args.place c.args.capture.now c.records.capture c.look.new.capture (g.S.Shelf.told c.args.shelf.now) (g.S.Shelf.told c.records.shelf)
    (g.S.Shelf.told c.look.new.shelf) c.in-Ok-Some-Marked.marked c.records.invariant.over looks

pub returns-in-Ok-Some-Cut-clause-stopped : goal.returns-in-Ok-Some-Cut-clause-stopped
returns-in-Ok-Some-Cut-clause-stopped g c =
    let looks = rw (c.in-Ok-Some-Cut.field-0-is, c.in-Ok-Some-Cut.field-0-0-is) at c.in-Ok-Some-Cut.ensures.looks in
    cuts c.args.place c.args.capture.now c.records.capture c.look.new.capture (g.S.Shelf.told c.args.shelf.now) (g.S.Shelf.told c.records.shelf)
    (g.S.Shelf.told c.look.new.shelf) c.in-Ok-Some-Cut.number c.records.invariant.over looks

pub returns-in-Ok-None-clause-ended : goal.returns-in-Ok-None-clause-ended
returns-in-Ok-None-clause-ended g c =
    ends c.args.place c.args.capture.now c.records.capture (g.S.Shelf.told c.args.shelf.now) (g.S.Shelf.told c.records.shelf)
    (g.S.Shelf.told c.look.new.shelf) c.records.invariant.over (rw c.in-Ok-None.field-0-is at c.in-Ok-None.ensures.ended)

pub returns-in-Err-clause-stopped : goal.returns-in-Err-clause-stopped
returns-in-Err-clause-stopped g c =
    stops c.args.place c.args.capture.now c.records.capture (g.S.Shelf.told c.args.shelf.now) (g.S.Shelf.told c.records.shelf)
    (g.S.Shelf.told c.look.new.shelf) c.in-Err.error c.records.invariant.over c.in-Err.ensures.stopped
