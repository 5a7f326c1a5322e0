-- The safepoint word, and what threads do at a reached safepoint.
pub mod SafepointLooks
pub mod Requests
pub mod CheckCall
pub mod SafeWords
pub mod SafeCalls
pub mod RefutedStops
