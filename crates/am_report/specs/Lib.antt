pub mod Rows
pub mod Reports
pub mod Writing
pub mod Lines
pub mod RowsRead
pub mod RowParts
pub mod Filling
pub mod ReportTexts
