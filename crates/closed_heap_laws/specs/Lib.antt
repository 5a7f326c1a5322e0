pub mod OfARun
pub mod Prototypes
pub mod Monitors
