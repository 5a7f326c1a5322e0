-- What only the private contracts of this crate cite: its own steps and invariants.
pub mod Clap
pub mod Shape
