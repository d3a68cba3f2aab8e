pub mod Simulating
pub mod Comparing
pub mod Measuring
pub mod Texts
