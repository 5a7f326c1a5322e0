-- Biases and their revocation.
pub mod FarWords
pub mod Walks
pub mod BiasTakes
pub mod BiasDrops
pub mod Releases
pub mod RevocationEnds
pub mod RevocationLooks
pub mod FinalMarks
pub mod ObjectLeft
