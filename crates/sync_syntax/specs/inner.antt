-- What only the private contracts and the proofs of this crate cite.
pub mod Views
pub mod State
pub mod Steps
pub mod Written
