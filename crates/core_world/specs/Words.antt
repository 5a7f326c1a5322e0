-- What the words of the heap are called, and what they say.
pub mod Shape
pub mod Names
pub mod Acts
pub mod Forms
