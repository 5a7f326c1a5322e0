pub mod WaitsByLog
pub mod Examples
