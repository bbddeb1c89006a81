pub mod Outcomes
pub mod Run
