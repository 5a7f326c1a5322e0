pub mod Added
pub mod Alive
pub mod Asides
pub mod CallsTimed
pub mod Sides
pub mod Turns
