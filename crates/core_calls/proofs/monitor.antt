-- Inflation, and the words of monitors.
pub mod MonitorsSay
