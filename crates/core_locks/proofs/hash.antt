-- Identity hashes, and the draws for them.
pub mod Drawing
pub mod PlainHashes
pub mod HashLoads
pub mod HashPlaces
pub mod HashFinds
pub mod HashDraws
pub mod HashMark
pub mod HashHeader
pub mod DrawnLogs
pub mod RefutedDraws
