-- What only the private contracts of this crate cite: what an entry leads to, how ends are counted, and which search moves are of.
pub mod Going
pub mod Counting
pub mod Courses
pub mod Trails
