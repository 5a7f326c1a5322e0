pub mod Pool
pub mod Choice
pub mod Standstill
pub mod inner
pub use Rattle.atomic_table.specs.Table
