-- Identity hashes, and the draws for them.
pub mod HashRules
pub mod HashCalls
pub mod FirstDraws
