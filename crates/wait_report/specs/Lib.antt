pub mod Waiting
pub mod Cycles
pub mod Handovers
pub mod Counts
pub mod StuckExamples
pub mod inner
