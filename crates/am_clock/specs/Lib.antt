pub mod Times
pub mod Refusals
pub mod Epochs
pub mod Covered
