use Rattle.am_cells.proofs.CellLemmas.{cell-place, same-table}
use Rattle.am_cells.proofs.laws.cells_law.Goals as goal

pub returns : goal.returns
returns c = record { same = same-table; places = cell-place }
