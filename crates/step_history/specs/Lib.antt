pub mod Leads
pub mod Overtaken
pub mod Race
pub mod Turns
pub mod Examples
