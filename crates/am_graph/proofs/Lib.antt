pub mod ReachLemmas
pub mod WalkLemmas
pub mod FoundLemmas
pub mod PlaceLemmas
pub mod GraphLemmas
pub mod ClusterLemmas
