-- The parts of a row that is read.
use Rattle.std.specs.Prelude.{◌≡◌, ℕ, List, Some, decimal}
use Rattle.csv.specs.Records.{field_at}
use Rattle.am_cells.specs.Counts.{IsLawfulCell}
use Rattle.am_cells.specs.declared.cell.Cell.{Cell}
use Rattle.am_report.specs.Rows.{RowValue}
use Rattle.am_report.specs.declared.row.RowText.{RowText}

-- what was read of a row
abbrev pub row_said : RowText → RowValue
row_said r = record { node = r.node.now; flow = r.flow.now; block = r.block; cell = r.cell }

-- the number stands in the field at this place
abbrev pub IsNumberField : List (List ℕ) → ℕ → ℕ → Type 0
IsNumberField fields place n = field_at fields place ≡ Some (decimal n)

-- the cell stands in the last four fields of a row, and is lawful
pub record IsCellThere (fields : List (List ℕ)) (c : Cell) : Type 0 where
  pub count : IsNumberField fields 4 c.count
  pub sum : IsNumberField fields 5 c.sum
  pub dcount : IsNumberField fields 6 c.dcount
  pub dsum : IsNumberField fields 7 c.dsum
  pub lawful : IsLawfulCell c
