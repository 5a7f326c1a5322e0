pub mod ShotParts
pub mod inner
