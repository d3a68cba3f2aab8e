pub mod Appends
pub mod Files
pub mod Gathering
pub mod Reading
