pub mod Weakened
pub mod SmallWorlds
pub mod Deflated
