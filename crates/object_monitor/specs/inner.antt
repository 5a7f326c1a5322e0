-- What only the private contracts of this crate cite: its own steps, states and invariants.
pub mod NotifyParts
pub mod WaitParts
