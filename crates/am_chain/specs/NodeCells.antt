-- The cells of one node.
use Rattle.std.specs.Prelude.{ℕ, List}
use Rattle.am_cells.specs.CellTables.{CellTable, IsCellTable}
use Rattle.am_domain.specs.Domains.{DomainValue}
use Rattle.am_meter.specs.Metering.{AreMetered}
use Rattle.am_meter.specs.declared.stream.Marked.{Marked}

-- these are the cells of a node, of whose capture these are the marked records: a whole table, in which no number is greater
-- than may be counted
pub record AreWholeCells (d : DomainValue) (node : ℕ) (ms : List Marked) (cells : CellTable) : Type 0 where
  pub table : IsCellTable cells
  pub metered : AreMetered d node ms cells
