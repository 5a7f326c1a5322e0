-- Enters and exits, by lock records and hold words.
pub mod Enters
pub mod EnterLogged
pub mod Holds
pub mod HoldStored
pub mod RefusedEnters
