pub mod Settled
pub mod HoldSums
pub mod OwnHolds
pub mod OwnWaits
pub mod OwnShots
pub mod OtherWords
