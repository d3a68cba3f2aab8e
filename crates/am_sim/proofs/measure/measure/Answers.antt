use Rattle.std.proofs.Common.{arith, refl, ap, length}
use Rattle.am_sim.proofs.CountingLemmas.{counts-none, counts-one, plan-shape, reports-length}
use Rattle.am_sim.proofs.measure.measure.Goals as goal

pub loop-node-init : goal.loop-node-init
loop-node-init g c = counts-none c.args.domain.now c.args.world.now c.args.control.now.plan c.args.control.now refl c.requires.none

pub accept-requires-clause-node : goal.accept-requires-clause-node
accept-requires-clause-node g c =
    omega (
      arith,
      reports-length c.args.domain.now c.args.world.now c.loop-node.node c.args.control.now.plan c.loop-node.control c.loop-node.invariant,
      ap length c.nodes.ensures.value,
    )

pub accept-requires-clause-shape : goal.accept-requires-clause-shape
accept-requires-clause-shape g c =
    plan-shape c.args.domain.now c.args.control.now.plan c.loop-node.control.plan c.in_ok-cells.cells c.requires.plan c.loop-node.invariant.plan_is
    c.in_ok-cells.ensures.table

pub loop-node-preserved : goal.loop-node-preserved
loop-node-preserved g c =
    counts-one c.args.domain.now c.args.world.now c.loop-node.node c.args.control.now.plan c.loop-node.control c.accept.new.self
    c.in_ok-cells.ensures.cells.marks c.in_ok-cells.cells (omega (arith, ap length c.nodes.ensures.value)) c.loop-node.invariant
    c.in_ok-cells.ensures.cells.cells c.in-Ok.ensures.accepted
