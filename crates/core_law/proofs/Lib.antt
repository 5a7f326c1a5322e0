pub mod RunEnds
pub mod Wholes
pub mod NextSteps
pub mod Lawful
pub mod Standing
pub mod Places
pub mod SafepointSights
