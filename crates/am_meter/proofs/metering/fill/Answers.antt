use Rattle.std.proofs.Common.{arith, ap, ◌∙◌, List, length}
use Rattle.am_meter.specs.Batches.{BatchRecord, bytes_in}
use Rattle.am_meter.proofs.Files.{fills-nothing, fills-more, fills-to-end, fills-until}
use Rattle.am_meter.proofs.metering.fill.Goals as goal

pub records-init : goal.records-init
records-init g c = record {
  fills = fills-nothing c.args.capture.now (g.S.Shelf.told c.args.shelf.now) c.args.batch.now c.requires.goes_on c.requires.few c.requires.empty;
  head = c.head-head.ensures;
  few = omega (arith, ap (λ (x : List BatchRecord). length x) c.requires.empty);
  short = omega (arith, ap (λ (x : List BatchRecord). bytes_in x) c.requires.empty);
  faults_stay = omega arith;
  missed_stay = omega arith;
}

pub returns-in-Ok-false-clause-fills : goal.returns-in-Ok-false-clause-fills
returns-in-Ok-false-clause-fills g c =
    let loads = rw c.in-Ok-false.field-0-test at c.in-Ok-false.ensures.loads in
    fills-to-end c.args.capture.now c.records.capture (g.S.Shelf.told c.args.shelf.now) (g.S.Shelf.told c.records.shelf)
    (g.S.Shelf.told c.load.new.shelf) c.records.batch c.load.new.batch c.records.invariant.fills loads.0 loads.1

pub returns-in-Err-clause-stopped : goal.returns-in-Err-clause-stopped
returns-in-Err-clause-stopped g c =
    fills-until c.args.capture.now c.records.capture (g.S.Shelf.told c.args.shelf.now) (g.S.Shelf.told c.records.shelf)
    (g.S.Shelf.told c.load.new.shelf) c.records.batch c.load.new.batch c.in-Err.error c.records.invariant.fills
    c.in-Err.ensures.stopped c.in-Err.ensures.batch

pub returns-then-is_enough-clause-fills : goal.returns-then-is_enough-clause-fills
returns-then-is_enough-clause-fills g c =
    let loads = rw c.in-Ok-true.field-0-test at c.in-Ok-true.ensures.loads in (
      fills-more c.args.capture.now c.records.capture c.load.new.capture (g.S.Shelf.told c.args.shelf.now) (g.S.Shelf.told c.records.shelf)
          (g.S.Shelf.told c.load.new.shelf) c.records.batch c.load.new.batch c.records.invariant.fills loads,
      omega (arith, c.records.invariant.fills.passes, loads.next),
    )

pub records-preserved : goal.records-preserved
records-preserved g c =
    let loads = rw c.in-Ok-true.field-0-test at c.in-Ok-true.ensures.loads in
    record {
      fills = fills-more c.args.capture.now c.records.capture c.load.new.capture (g.S.Shelf.told c.args.shelf.now) (g.S.Shelf.told c.records.shelf)
          (g.S.Shelf.told c.load.new.shelf) c.records.batch c.load.new.batch c.records.invariant.fills loads;
      head = loads.head ∙ c.records.invariant.head;
      few = c.if-is_enough.ensures.0;
      short = c.if-is_enough.ensures.1;
      faults_stay = omega (arith, c.records.invariant.faults_stay, c.in-Ok-true.ensures.faults_stay);
      missed_stay = omega (arith, c.records.invariant.missed_stay, c.in-Ok-true.ensures.missed_stay);
    }
