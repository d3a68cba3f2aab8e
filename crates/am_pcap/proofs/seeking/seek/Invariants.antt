use Rattle.std.proofs.Common.{◌-◌, ◌≤◌}
use Rattle.am_pcap.specs.declared.seeking.TheConstants.{MAX_READ}
use Rattle.am_pcap.specs.Seeking.{Continued, reading_with}
use Rattle.am_pcap.proofs.seeking.seek.Given as goal

-- bytes were read, and no record came of them yet
abbrev pub invariant-seeking : goal.invariant-seeking
invariant-seeking g l = record {
  on : Continued (reading_with l.fn.decoder l.fn.held l.fn.read) (reading_with l.decoder l.held l.read)
      (g.S.Shelf.told l.fn.shelf) (g.S.Shelf.told l.shelf);
  faults_stay : g.S.Shelf.faults l.fn.shelf ≤ g.S.Shelf.faults l.shelf;
  missed_stay : g.S.Shelf.missed l.fn.shelf ≤ g.S.Shelf.missed l.shelf;
}

abbrev pub decreases-seeking : goal.decreases-seeking
decreases-seeking g l = MAX_READ - l.read
