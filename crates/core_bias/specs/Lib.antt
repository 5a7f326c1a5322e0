pub mod Revoking
pub mod Biasing
