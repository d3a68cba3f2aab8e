pub mod Sums
pub mod ViewLemmas
pub mod Keeping
pub mod Adding
