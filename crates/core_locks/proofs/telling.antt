-- Entries that take or leave no lock, and the length of a log.
pub mod TellTaken
pub mod Tells
pub mod TouchSlots
pub mod Publishes
pub mod PublishesAll
