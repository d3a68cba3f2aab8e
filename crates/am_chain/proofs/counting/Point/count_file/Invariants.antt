use Rattle.std.proofs.Common.{◌≡◌, ℕ, ◌-◌, ◌^◌, ◌≤◌, List}
use Rattle.am_ip6.specs.declared.marks.Place.TheVariants.{HopByHop}
use Rattle.am_meter.specs.Streaming.{passed}
use Rattle.am_meter.specs.Streams.{StreamsOn}
use Rattle.am_meter.specs.declared.stream.Marked.{Marked}
use Rattle.am_chain.specs.Tables.{count_in}
use Rattle.am_chain.specs.Tallies.{tally, other, IsCounted}
use Rattle.am_chain.proofs.counting.Point.count_file.Given as goal

-- some marked records were given so far, and are what the side has
abbrev pub invariant-records : goal.invariant-records
invariant-records g l = record {
  marked : List Marked;
  on : StreamsOn (g.S.Shelf.told l.fn.shelf) (g.S.Shelf.told l.shelf) l.name HopByHop l.stream marked;
  here : (b : ℕ) → tally l.table l.self.side b ≡ count_in l.self.timing l.self.flow l.self.shift marked b;
  there : (b : ℕ) → tally l.table (other l.self.side) b ≡ tally l.fn.table (other l.self.side) b;
  counted : IsCounted l.table;
  faults_stay : g.S.Shelf.faults l.fn.shelf ≤ g.S.Shelf.faults l.shelf;
  missed_stay : g.S.Shelf.missed l.fn.shelf ≤ g.S.Shelf.missed l.shelf;
}

abbrev pub decreases-records : goal.decreases-records
decreases-records g l = 2 ^ 36 - passed l.stream
