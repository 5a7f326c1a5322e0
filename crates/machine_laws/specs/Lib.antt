pub mod Work
pub mod References
pub mod Reached
pub mod ReachedMonitor
pub mod ReachedThread
pub mod ReachedEntry
pub mod LogEnds
pub mod Examples
