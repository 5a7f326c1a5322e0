-- Enters and exits, by lock records and hold words.
pub mod ObjectHolds
pub mod OwnersShown
pub mod LockFrames
