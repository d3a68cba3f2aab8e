use Rattle.std.proofs.Common.{◌≡◌, ℕ, ◌<◌, ◌≤◌}
use Rattle.std.specs.Prelude.{All}
use Rattle.am_cells.specs.Counts.{IsLawfulCell, together}
use Rattle.am_cells.specs.CellTables.{cell_in}
use Rattle.am_cells.proofs.cells.merge_cells.Given as goal

abbrev pub invariant-loop-i : goal.invariant-loop-i
invariant-loop-i l = record {
  done : (k : ℕ) → k < l.i → cell_in l.cells k ≡ together (cell_in l.fn.cells k) (cell_in l.others k);
  ahead : (k : ℕ) → l.i ≤ k → cell_in l.cells k ≡ cell_in l.fn.cells k;
  lawful : All IsLawfulCell l.cells;
}
