-- Inflation, and the words of monitors.
pub mod MonitorRules
pub mod MonitorFacts
pub mod MonitorExits
pub mod Inflations
pub mod MonitorEnters
