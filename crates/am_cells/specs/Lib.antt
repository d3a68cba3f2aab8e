pub mod Counts
pub mod CellTables
