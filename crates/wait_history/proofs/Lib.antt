pub mod WaitSteps
pub mod WaitsByLog
