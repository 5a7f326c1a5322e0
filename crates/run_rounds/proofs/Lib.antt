pub mod Ready
pub mod Lists
pub mod Stays
pub mod Slotted
pub mod StuckMachines
pub mod Numbered
pub mod Ending
pub mod Over
pub mod Closing
pub mod Pushed
mod Seats
