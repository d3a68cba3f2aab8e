use Rattle.am_meter.proofs.Cells.{counts-nowhere, counts-here-then}
use Rattle.am_meter.proofs.Places.{no-cell, same-cell-as}
use Rattle.am_meter.proofs.counting.count_marked.Goals as goal

pub returns-in_default : goal.returns-in_default
returns-in_default c =
    counts-nowhere c.args.domain.now c.args.node c.args.cells.now c.args.marked.now
    (no-cell c.args.domain.now c.args.node c.args.marked.now c.cell_for.result c.cell_for.ensures.only c.in_default.is)

pub returns : goal.returns
returns c =
    counts-here-then c.args.domain.now c.args.node c.args.cells.now c.add.new.self c.args.marked.now c.in-Some.flow c.in-Some.block
    c.delay.result c.offset_of-offset.result c.delay.ensures c.offset_of-offset.ensures.value c.in-Some.ensures.counts
    (λ flow block at. same-cell-as c.in-Some.flow c.in-Some.block flow block (c.in-Some.ensures.only flow block at)) c.add.ensures
