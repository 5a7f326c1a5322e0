-- Enters and exits, by lock records and hold words.
pub mod LocksSay
pub mod EntersSay
pub mod ShortCalls
