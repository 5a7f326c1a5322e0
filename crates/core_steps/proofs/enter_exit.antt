-- Enters and exits, by lock records and hold words.
pub mod StackEnters
pub mod ExitFacts
pub mod StackExits
pub mod ExitCalls
pub mod EnterCalls
