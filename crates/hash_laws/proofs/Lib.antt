pub mod Placed
pub mod HashValues
pub mod DrawsFit
pub mod DrawsAgain
pub mod LegalHashes
pub mod HashExample
pub mod RefusedHashes
