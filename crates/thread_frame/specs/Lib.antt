pub mod Frames
pub mod Examples
pub mod Sights
pub mod Walking
pub mod inner
