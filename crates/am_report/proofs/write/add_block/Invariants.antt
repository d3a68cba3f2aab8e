use Rattle.std.proofs.Common.{ℕ, List, ◌++◌, Some}
use Rattle.std.specs.Prelude.{flat_map, map}
use Rattle.std.specs.List.{range_with_len}
use Rattle.am_cells.specs.CellTables.{cell_at}
use Rattle.am_report.specs.Lines.{HasLines}
use Rattle.am_report.specs.Rows.{report_line, row_at}
use Rattle.am_report.proofs.write.add_block.Given as goal

abbrev pub invariant-loop-flow : goal.invariant-loop-flow
invariant-loop-flow l =
    (text : List ℕ) → HasLines (λ v. Some v.items) l.initial.lines text
    → HasLines (λ v. Some v.items) l.lines
    (text ++ flat_map report_line (map (λ f. row_at l.domain l.node f l.block (cell_at l.cells f l.block)) (range_with_len 0 l.flow)))
