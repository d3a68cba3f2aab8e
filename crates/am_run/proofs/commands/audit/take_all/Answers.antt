-- The captures of the nodes so far, and one more.
use Rattle.std.proofs.Common.{arith, refl, ap, length}
use Rattle.am_chain.specs.Chains.{inputs}
use Rattle.am_run.proofs.AuditLemmas.{takes-none, takes-one}
use Rattle.am_run.proofs.commands.audit.take_all.Goals as goal

pub loop-node-init : goal.loop-node-init
loop-node-init g c = takes-none c.args.domain.now c.args.control.now.plan (inputs (g.S.Shelf.told c.args.shelf.now) (g.S.Shelf.faults c.args.shelf.now) (g.S.Shelf.missed c.args.shelf.now)) c.args.control.now refl c.requires.none

pub loop-node-preserved : goal.loop-node-preserved
loop-node-preserved g c =
    let t = c.in-Ok.ensures in
    takes-one c.args.domain.now c.loop-node.node c.args.control.now.plan (inputs (g.S.Shelf.told c.args.shelf.now) (g.S.Shelf.faults c.args.shelf.now) (g.S.Shelf.missed c.args.shelf.now)) (inputs (g.S.Shelf.told c.loop-node.shelf) (g.S.Shelf.faults c.loop-node.shelf) (g.S.Shelf.missed c.loop-node.shelf)) (inputs (g.S.Shelf.told c.take_cells.new.shelf) (g.S.Shelf.faults c.take_cells.new.shelf) (g.S.Shelf.missed c.take_cells.new.shelf)) c.loop-node.control c.accept.new.self t.0 c.in-Ok.cells
    (omega (arith, ap (λ ns. length ns) c.nodes.ensures.value)) c.loop-node.invariant t.1 t.2 t.3 c.in-Ok-accept.ensures.accepted
