-- Objects that are made at run time.
pub mod CreatesSay
