-- What only the private contracts of this crate cite: its own steps, states and invariants.
pub mod Amid
pub mod Drafts
pub mod Firsts
pub mod Kept
pub mod Layout
pub mod Leaving
pub mod NewestHold
pub mod Openings
pub mod Parts
pub mod Prototypes
pub mod Ruled
pub mod Seats
pub mod Seen
