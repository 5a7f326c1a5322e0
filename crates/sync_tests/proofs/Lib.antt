pub mod Statements
pub mod Counted
