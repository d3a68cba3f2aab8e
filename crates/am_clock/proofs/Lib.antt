pub mod Belonging
pub mod Covering
