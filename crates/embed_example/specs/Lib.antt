pub mod Acts
pub mod Between
