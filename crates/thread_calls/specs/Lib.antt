pub mod Asked
pub mod Between
pub mod Advances
pub mod Timed
pub mod inner
