use Rattle.std.proofs.Common.{[], arith, suc, ◌+◌, ◌-◌, ◌≡◌}
use Rattle.am_report.proofs.LineLemmas.{as-text, said-text}
use Rattle.am_report.proofs.TextLemmas.{lines-none, lines-more, lines-all}
use Rattle.am_report.proofs.write.report_bytes.Goals as goal

pub loop-block-init : goal.loop-block-init
loop-block-init c =
    let d = c.args.domain.now in
    let none : c.first-block.result - d.first ≡ 0 = omega (arith, c.first-block.ensures.value) in
    as-text _ _ _ (lines-none d c.args.node c.args.cells.now (c.first-block.result - d.first) none)
    (c.in_ok-add_line.ensures [] c.no_lines-lines.ensures)

pub loop-block-preserved : goal.loop-block-preserved
loop-block-preserved c =
    let d = c.args.domain.now in
    let block = c.loop-block.block in
    let here : d.first + (block - d.first) ≡ block = omega (arith, c.loop-block.auto.block, c.first-block.ensures.value) in
    let next : block + 1 - d.first ≡ suc (block - d.first) = omega (arith, c.loop-block.auto.block, c.first-block.ensures.value) in
    as-text _ _ _ (lines-more d c.args.node c.args.cells.now block (block - d.first) (block + 1 - d.first) here next)
    (c.in_ok-add_block.ensures _ c.loop-block.invariant)

pub returns : goal.returns
returns c =
    let d = c.args.domain.now in
    let block = c.loop-block.block in
    let first = c.first-block.ensures in
    let last = c.end-block-end.ensures in
    let all : block - d.first ≡ d.end - d.first =
    omega (arith, first.value, last.value, first.lawful.some_block, c.loop-block.auto.block-end, c.loop-block-test.false) in
    said-text _ _ _ c.bytes_of.ensures
    (as-text _ _ _ (lines-all d c.args.node c.args.cells.now (block - d.first) all) c.loop-block.invariant)
