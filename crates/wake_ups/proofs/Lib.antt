pub mod Untouched
pub mod Notified
pub mod PlainStands
pub mod Later
pub mod Silent
pub mod SilentThere
pub mod OtherWakeUps
pub mod NotifiedThere
