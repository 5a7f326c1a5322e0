-- Dumps and their shots.
pub mod ShotsKept
