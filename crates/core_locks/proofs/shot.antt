-- Dumps and their shots.
pub mod ShotLogs
pub mod ShotWords
pub mod ShotCuts
pub mod Shoots
pub mod ValidShots
pub mod RefutedShots
pub mod ShotTree
pub mod NotingNew
