pub mod Turns
pub mod Barred
