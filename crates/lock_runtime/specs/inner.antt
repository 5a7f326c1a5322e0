-- What only the private contracts of this crate cite: its own steps, states and invariants.
pub mod HashParts
pub mod LookParts
pub mod Parts
pub mod WaitParts
