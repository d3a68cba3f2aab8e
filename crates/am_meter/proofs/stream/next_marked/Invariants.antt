use Rattle.std.proofs.Common.{◌≤◌, ◌-◌, ◌^◌}
use Rattle.am_meter.specs.Looks.{PassesOver}
use Rattle.am_meter.proofs.stream.next_marked.Given as goal

-- records without a mark were passed over
abbrev pub invariant-records : goal.invariant-records
invariant-records g l = record {
  over : PassesOver l.place l.fn.capture l.capture (g.S.Shelf.told l.fn.shelf) (g.S.Shelf.told l.shelf);
  faults_stay : g.S.Shelf.faults l.fn.shelf ≤ g.S.Shelf.faults l.shelf;
  missed_stay : g.S.Shelf.missed l.fn.shelf ≤ g.S.Shelf.missed l.shelf;
}

abbrev pub decreases-records : goal.decreases-records
decreases-records g l = 2 ^ 36 - l.capture.decoded.summary.count
