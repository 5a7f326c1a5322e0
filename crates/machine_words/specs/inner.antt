-- What only the private contracts of this crate cite: how far its loops are, and why they end early.
pub mod Reading
pub mod Telling
