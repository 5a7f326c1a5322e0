-- What only the private contracts of this crate cite: its own steps.
pub mod Added
pub mod Among
pub mod Steps
