-- Biases and their revocation.
pub mod LookWhileRevoking
