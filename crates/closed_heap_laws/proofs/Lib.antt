pub mod LastWorlds
pub mod Draws
pub mod Shots
pub mod Made
pub mod Stuck
pub mod Prototypes
pub mod Monitors
pub mod OtherEnds
