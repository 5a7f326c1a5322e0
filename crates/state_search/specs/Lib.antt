pub mod Found
pub mod FoundView
pub mod Search
pub mod inner
