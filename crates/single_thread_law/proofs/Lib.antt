mod OneLog
mod Drawing
mod Hashed
mod Fitting
mod Ending
pub mod OneWay
pub mod Texts
pub mod LoneExample
pub mod PairExample
