pub mod WakeUps
pub mod Examples
