pub mod Lending
pub mod inner
