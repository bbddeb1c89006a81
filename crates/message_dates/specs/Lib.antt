pub mod Calendar
pub mod Sent
pub mod Minutes
