-- What only the private contracts of this crate cite: its own steps and invariants.
pub mod Added
pub mod Labels
pub mod Left
pub mod Signs
pub mod Steps
pub mod Written
pub mod Places
