pub mod Lists
pub mod Graphs
pub mod Clusters
pub mod Walks
