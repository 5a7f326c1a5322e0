pub mod LoneRun
pub mod Shots
pub mod LoneExample
pub mod PairExample
