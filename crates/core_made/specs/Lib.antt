pub mod Steps
pub mod Making
