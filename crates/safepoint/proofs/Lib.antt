pub mod Forms
pub mod Swaps
