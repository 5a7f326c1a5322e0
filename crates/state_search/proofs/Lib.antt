pub mod Inserts
pub mod Origins
pub mod Steps
