pub mod Making
pub mod Miscounts
pub mod Moves
pub mod Steps
pub mod inner
