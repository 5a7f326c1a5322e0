pub mod Biased
pub mod Known
pub mod Recorded
pub mod Walk
