use Rattle.am_cells.proofs.CellLemmas.{added}
use Rattle.am_cells.proofs.cells.Cells.add_cell.Goals as goal

pub returns : goal.returns
returns c =
    let number = c.number_of-number.ensures in
    added _ _ c.args.flow c.args.block c.number_of-number.result c.args.cell.now _ _ c.self.view_is
    number.table c.requires.there number.value number.below c.index_mut-here.ensures.value c.count_all.ensures.counts
