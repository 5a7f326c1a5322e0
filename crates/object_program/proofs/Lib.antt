pub mod Names
pub mod Shapes
pub mod Made
