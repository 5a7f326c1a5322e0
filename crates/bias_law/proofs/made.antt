-- Objects that are made at run time.
pub mod News
pub mod NewObjects
pub mod Untouched
pub mod ClassStored
pub mod MarkStored
