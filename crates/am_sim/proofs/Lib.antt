pub mod RowLemmas
pub mod SumLemmas
pub mod ClusterLemmas
pub mod CountingLemmas
pub mod RightLemmas
pub mod ComparingLemmas
pub mod EventLemmas
pub mod ShelfLemmas
