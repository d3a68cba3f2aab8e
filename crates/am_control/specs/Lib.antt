pub mod Plans
pub mod Rows
pub mod Texts
pub mod Controls
pub mod Passages
