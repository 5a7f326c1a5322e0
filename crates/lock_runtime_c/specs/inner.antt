-- What only the private contracts and the proofs of this crate cite.
pub mod FirstLimits
pub mod Held
pub mod Parting
pub mod MayMake
pub mod Seats
pub mod QuickCalls
