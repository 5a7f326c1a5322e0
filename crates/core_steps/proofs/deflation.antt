-- Idle monitors that are given back, and the ring that they go to.
pub mod Ringed
pub mod DeflationLooks
pub mod GivesBack
pub mod Deflations
pub mod AllDeflations
