use Rattle.std.proofs.Common.{◌≡◌, ◌-◌, ◌^◌, ◌<◌, ◌≤◌, length, Some}
use Rattle.am_meter.specs.declared.metering.TheConstants.{ENOUGH_RECORDS, ENOUGH_BYTES}
use Rattle.am_meter.specs.Batches.{bytes_in}
use Rattle.am_meter.specs.Filling.{Fills}
use Rattle.am_meter.proofs.metering.fill.Given as goal

-- the batch was filled so far, and is to be filled on
abbrev pub invariant-records : goal.invariant-records
invariant-records g l = record {
  fills : Fills l.fn.capture l.capture (g.S.Shelf.told l.fn.shelf) (g.S.Shelf.told l.shelf) l.batch;
  head : l.capture.decoded.summary.head ≡ Some l.head;
  few : length l.batch < ENOUGH_RECORDS;
  short : bytes_in l.batch < ENOUGH_BYTES;
  faults_stay : g.S.Shelf.faults l.fn.shelf ≤ g.S.Shelf.faults l.shelf;
  missed_stay : g.S.Shelf.missed l.fn.shelf ≤ g.S.Shelf.missed l.shelf;
}

abbrev pub decreases-records : goal.decreases-records
decreases-records g l = 2 ^ 36 - l.capture.decoded.summary.count
