pub mod Causes
pub mod Turns
pub mod Exchanges
pub mod Steps
