pub mod Prefixes
pub mod Agreement
pub mod Turns
mod ViewExamples
