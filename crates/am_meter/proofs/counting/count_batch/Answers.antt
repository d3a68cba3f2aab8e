use Rattle.std.proofs.Common.{arith}
use Rattle.am_meter.specs.BatchSlots.{lent_shown}
use Rattle.am_meter.proofs.Counts.{counts-front, cuts-at}
use Rattle.am_meter.proofs.counting.count_batch.Goals as goal

pub returns-then-not-count_record-clause-cut : goal.returns-then-not-count_record-clause-cut
returns-then-not-count_record-clause-cut c =
    cuts-at c.args.domain.now c.args.node c.args.batch.now c.loop-at.at (lent_shown c.at-record.result) c.args.cells.now c.loop-at.cells
    c.count_record.new.cells (omega (arith, c.loop-at-test.true, c.len-at-end.ensures.value)) c.at-record.ensures c.loop-at.invariant
    c.if-not-count_record.ensures

pub loop-at-preserved : goal.loop-at-preserved
loop-at-preserved c =
    counts-front c.args.domain.now c.args.node c.args.batch.now c.loop-at.at (lent_shown c.at-record.result) c.args.cells.now c.loop-at.cells
    c.count_record.new.cells (omega (arith, c.loop-at-test.true, c.len-at-end.ensures.value)) c.at-record.ensures c.loop-at.invariant
    c.if-not-count_record.ensures
