-- What only the private contracts of this crate cite: its own steps, states and invariants.
pub mod Ends
pub mod Turns
pub mod Slots
pub mod First
