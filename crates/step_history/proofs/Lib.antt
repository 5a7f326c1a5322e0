pub mod Listed
pub mod Blamed
pub mod Turned
pub mod Raced
pub mod Exemplified
pub mod Racing
pub mod Missed
