-- Dumps and their shots.
pub mod ShotsStay
