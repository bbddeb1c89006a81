pub mod Script
pub mod Asks
