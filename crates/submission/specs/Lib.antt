pub mod Replies
pub mod Hearings
pub mod Script
pub mod Submits
pub mod Stops
