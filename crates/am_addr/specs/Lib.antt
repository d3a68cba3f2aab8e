pub mod Bits
pub mod Print
pub mod Text
pub mod Walk
