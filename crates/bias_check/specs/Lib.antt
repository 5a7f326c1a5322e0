pub mod Lines
pub mod Steps
pub mod Answer
pub mod Logs
pub mod Printed
pub mod Parts
pub mod Example
pub mod inner
