-- The safepoint word, and what threads do at a reached safepoint.
pub mod SafeFacts
pub mod SafeCounts
pub mod SafeChanges
pub mod SafeStops
pub mod SafeStuck
pub mod SafeEnds
pub mod Standing
