-- The safepoint word, and what threads do at a reached safepoint.
pub mod SafeBits
