pub mod Laws
pub mod Lent
pub mod Marking
pub mod Options
