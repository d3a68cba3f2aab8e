use Rattle.std.proofs.Common.{◌≤◌, ◌+◌, ◌-◌, vec_len, ◌≡◌}
use Rattle.am_base.specs.Files.{IsPartRead}
use Rattle.am_base.proofs.file.read_file.Given as goal

-- what was read so far is a front of the file, and no longer than the limit
abbrev pub invariant-loop-bytes : goal.invariant-loop-bytes
invariant-loop-bytes g l = record {
  part : IsPartRead (g.S.Shelf.told l.fn.shelf) (g.S.Shelf.told l.shelf) l.name l.bytes.items;
  bound : vec_len l.bytes ≤ l.limit;
  room : vec_len l.chunk ≡ 65536;
  faults_stay : g.S.Shelf.faults l.fn.shelf ≤ g.S.Shelf.faults l.shelf;
  missed_stay : g.S.Shelf.missed l.fn.shelf ≤ g.S.Shelf.missed l.shelf;
}

abbrev pub decreases-loop-bytes : goal.decreases-loop-bytes
decreases-loop-bytes g l = l.limit + 1 - vec_len l.bytes
