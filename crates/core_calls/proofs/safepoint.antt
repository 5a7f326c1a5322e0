-- The safepoint word, and what threads do at a reached safepoint.
pub mod SafepointsSay
pub mod LookSpends
pub mod WhoGoesOn
pub mod Leaving
pub mod StaysLooks
pub mod Others
pub mod StandsSafe
