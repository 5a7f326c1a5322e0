mod After
mod Rounds
mod RevokeSteps
mod RevokeWords
pub mod Deflating
