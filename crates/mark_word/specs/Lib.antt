pub mod Record
pub mod Mark
pub mod Owner
pub mod Wait
pub mod Hold
pub mod Safe
pub mod inner
