use Rattle.am_cells.specs.Counts.{one_packet}
use Rattle.am_cells.proofs.CellLemmas.{added}
use Rattle.am_cells.proofs.cells.Cells.add.Goals as goal

pub returns : goal.returns
returns c =
    let number = c.number_of-number.ensures in
    added _ _ c.args.flow c.args.block c.number_of-number.result (one_packet c.args.delay c.args.offset) _ _ c.self.view_is
    number.table c.requires.there number.value number.below c.index_mut-cell.ensures.value c.count_one.ensures.counts
