pub mod HoldsByLog
