pub mod Runners
pub mod Moves
pub mod Checks
pub mod inner
