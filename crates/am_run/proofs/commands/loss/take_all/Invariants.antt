use Rattle.std.proofs.Common.{map, string_bytes}
use Rattle.am_chain.specs.Chains.{inputs}
use Rattle.am_run.specs.Gathered.{TakesReports}
use Rattle.am_run.proofs.commands.loss.take_all.Given as goal

-- the reports of the files so far were taken
abbrev pub invariant-loop-name : goal.invariant-loop-name
invariant-loop-name g l =
    TakesReports l.domain (map string_bytes l.names) l.name-index (inputs (g.S.Shelf.told l.fn.shelf) (g.S.Shelf.faults l.fn.shelf) (g.S.Shelf.missed l.fn.shelf))
    (inputs (g.S.Shelf.told l.shelf) (g.S.Shelf.faults l.shelf) (g.S.Shelf.missed l.shelf)) l.control
