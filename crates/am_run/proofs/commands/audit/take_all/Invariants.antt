use Rattle.am_run.specs.Auditing.{TakesFirst}
use Rattle.am_chain.specs.Chains.{inputs}
use Rattle.am_run.proofs.commands.audit.take_all.Given as goal

-- the captures of the nodes so far were taken
abbrev pub invariant-loop-node : goal.invariant-loop-node
invariant-loop-node g l =
    TakesFirst l.domain l.node l.fn.control.plan (inputs (g.S.Shelf.told l.fn.shelf) (g.S.Shelf.faults l.fn.shelf) (g.S.Shelf.missed l.fn.shelf))
    (inputs (g.S.Shelf.told l.shelf) (g.S.Shelf.faults l.shelf) (g.S.Shelf.missed l.shelf)) l.control
