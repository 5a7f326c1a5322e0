-- Biases and their revocation.
pub mod BiasRules
pub mod RevocationTrees
pub mod SeenAtSafepoint
pub mod RevocationMiddle
pub mod RevocationBegins
pub mod RevocationEnds
pub mod AfterRevocations
pub mod AskedRevocations
pub mod BiasFacts
pub mod KeptHeaders
pub mod BiasEnters
pub mod Unbiases
