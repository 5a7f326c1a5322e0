pub mod Policy
pub mod Draws
