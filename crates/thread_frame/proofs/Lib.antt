pub mod Runs
pub mod Lists
pub mod Starts
pub mod OtherFrames
pub mod Moves
pub mod Seen
pub mod Walks
pub mod Few
