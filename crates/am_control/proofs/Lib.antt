pub mod SumLemmas
pub mod RowLemmas
pub mod TextLemmas
pub mod SideLemmas
pub mod ReportLemmas
pub mod LossLemmas
pub mod WritingLemmas
pub mod PassageLemmas
