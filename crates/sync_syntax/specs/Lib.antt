pub mod Word
pub mod Blocks
pub mod Reading
pub mod Refusal
pub mod Canonical
pub mod Examples
pub mod inner
