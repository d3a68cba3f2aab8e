use Rattle.std.proofs.Common.{ℕ, List, [], ◌∷◌}
use Rattle.am_report.specs.Rows.{RowValue, column_names}
use Rattle.am_report.specs.Reports.{TakesRows}
use Rattle.am_report.specs.RowsRead.{HaveBeenRead}
use Rattle.am_report.specs.Filling.{IsFilling, IsFilled}
use Rattle.am_report.proofs.read.said_by.Given as goal

-- the rows so far were taken
abbrev pub invariant-rows : goal.invariant-rows
invariant-rows l =
    (rows : List (List (List ℕ))) × (taken : List RowValue) × HaveBeenRead l.reader l.bytes (column_names ∷ rows)
    × TakesRows l.domain [] rows taken × IsFilling l.domain l.filling × IsFilled l.domain l.filling taken
