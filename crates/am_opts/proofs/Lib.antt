pub mod Longest
pub mod Spelling
