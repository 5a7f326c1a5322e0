pub mod Name
pub mod NameView
pub mod Limits
pub mod Program
pub mod ProgramView
pub mod Valid
pub mod inner
