-- Identity hashes, and the draws for them.
pub mod HashSay
