-- Idle monitors that are given back, and the ring that they go to.
pub mod Rings
