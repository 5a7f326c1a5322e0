pub mod MadeItems
pub mod RunOptions
pub mod Takes
pub mod Texts
pub mod CutShort
pub mod Under
pub mod Replayed
pub mod Statuses
pub mod LoneRuns
pub mod PlainRuns
pub mod JournalsLegal
pub mod JournalsChecked
pub mod BlocksAllowed
pub mod BlockRuns
pub mod Briefly
pub mod RunsFound
pub mod Journals
pub mod Searched
mod Told
mod WaysShown
mod Gathered
pub mod ShortExample
pub mod Exemplified
pub mod Refuted
pub mod SearchExample
