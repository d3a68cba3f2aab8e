use Rattle.std.proofs.Common.{◌≡◌, ◌-◌, ◌^◌, ◌≤◌, []}
use Rattle.am_meter.specs.MeteredFiles.{MetersOn, capture_of}
use Rattle.am_meter.proofs.metering.meter_file.Given as goal

-- the cells are those of all records that were read, and the batch is empty
abbrev pub invariant-batches : goal.invariant-batches
invariant-batches g l = record {
  on : MetersOn l.domain l.node (g.S.Shelf.told l.fn.shelf) (g.S.Shelf.told l.shelf) (capture_of l.domain l.node) l.capture l.cells;
  empty : l.batch ≡ [];
  faults_stay : g.S.Shelf.faults l.fn.shelf ≤ g.S.Shelf.faults l.shelf;
  missed_stay : g.S.Shelf.missed l.fn.shelf ≤ g.S.Shelf.missed l.shelf;
}

abbrev pub decreases-batches : goal.decreases-batches
decreases-batches g l = 2 ^ 36 - l.capture.decoded.summary.count
