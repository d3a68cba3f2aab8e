use Rattle.std.proofs.Common.{◌-◌, ◌^◌}
use Rattle.am_chain.specs.Chains.{inputs, output}
use Rattle.am_chain.proofs.StreamLemmas.{Gathering}
use Rattle.am_chain.proofs.printing.print_capture.Given as goal

-- what is printed of the records so far was written, or is held, and these records are known
abbrev pub invariant-records : goal.invariant-records
invariant-records g l =
    (s : Gathering (inputs (g.S.Shelf.told l.fn.shelf) (g.S.Shelf.faults l.fn.shelf) (g.S.Shelf.missed l.fn.shelf))
    (inputs (g.S.Shelf.told l.shelf) (g.S.Shelf.faults l.shelf) (g.S.Shelf.missed l.shelf))
    (output (g.O.Sink.written l.fn.out) (g.O.Sink.faults l.fn.out)) (output (g.O.Sink.written l.out) (g.O.Sink.faults l.out))
    l.held.items l.name (g.P.Printing.stream l.printing) l.capture l.head) × g.P.Printing.knows l.printing l.state l.head s.packets

abbrev pub decreases-records : goal.decreases-records
decreases-records g l = 2 ^ 36 - l.capture.decoded.summary.count
