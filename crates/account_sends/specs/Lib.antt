pub mod Outboxes
pub mod Sends
pub mod Once
pub mod Dots
