pub mod Answers
pub mod Done
pub mod Sends
