use Rattle.std.proofs.Common.{◌≡◌, ap, arith, length}
use Rattle.am_report.proofs.LineLemmas.{as-text}
use Rattle.am_report.proofs.TextLemmas.{lines-row, lines-block}
use Rattle.am_report.proofs.write.add_block.Goals as goal

pub loop-flow-preserved : goal.loop-flow-preserved
loop-flow-preserved c = λ text h.
    as-text _ _ _ (lines-row c.args.domain.now c.args.node c.args.cells.now c.args.block c.loop-flow.flow text _ c.get-cell.ensures.value)
    (c.in_ok-add_row.ensures _ (c.loop-flow.invariant text h))

pub returns : goal.returns
returns c = λ text h.
    let all : c.loop-flow.flow ≡ length c.args.domain.now.flows =
    omega (arith, ap length c.flows.ensures.value, c.loop-flow-test.false, c.loop-flow.auto.flow-end, c.flows.ensures.lawful.few_flows) in
    as-text _ _ _ (lines-block c.args.domain.now c.args.node c.args.cells.now c.args.block c.loop-flow.flow text all)
    (c.loop-flow.invariant text h)
