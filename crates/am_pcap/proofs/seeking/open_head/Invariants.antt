use Rattle.std.proofs.Common.{◌-◌, ◌≤◌}
use Rattle.am_pcap.specs.Seeking.{HeadGrown, reading_with}
use Rattle.am_pcap.proofs.seeking.open_head.Given as goal

-- bytes of the file header were read, and it isn't whole yet
abbrev pub invariant-heading : goal.invariant-heading
invariant-heading g l = record {
  on : HeadGrown (reading_with l.fn.decoder l.fn.held l.fn.read) (reading_with l.decoder l.held l.read)
      (g.S.Shelf.told l.fn.shelf) (g.S.Shelf.told l.shelf);
  faults_stay : g.S.Shelf.faults l.fn.shelf ≤ g.S.Shelf.faults l.shelf;
  missed_stay : g.S.Shelf.missed l.fn.shelf ≤ g.S.Shelf.missed l.shelf;
}

abbrev pub decreases-heading : goal.decreases-heading
decreases-heading g l = 24 - l.read
