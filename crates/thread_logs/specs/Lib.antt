pub mod Followed
pub mod Passed
pub mod Examples
pub mod inner
