pub mod HandoverText
pub mod inner
