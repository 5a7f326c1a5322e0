-- What only the private contracts of this crate cite: its own steps and invariants.
pub mod Checking
pub mod Guesses
pub mod HashState
pub mod HashesView
pub mod Marks
pub mod Printed
pub mod Spelled
pub mod Table
pub mod Words
