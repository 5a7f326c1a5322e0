-- Biases and their revocation.
pub mod BiasSay
pub mod RevocationSpends
