-- What a thread knows, and where it stands.
pub mod Stages
pub mod Counts
pub mod ThreadView
pub mod References
pub mod AtRest
