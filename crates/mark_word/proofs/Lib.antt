pub mod ReadingRecords
pub mod ReadingMarks
pub mod ReadingOwners
pub mod ReadingWaits
pub mod ReadingHolds
pub mod ReadingSafepoints
