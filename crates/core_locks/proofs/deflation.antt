-- Idle monitors that are given back, and the ring that they go to.
pub mod Detaches
pub mod Cleans
pub mod Enqueues
pub mod Advances
pub mod RefutedDeflations
pub mod RefutedClaims
