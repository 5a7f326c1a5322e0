pub mod HashExample
