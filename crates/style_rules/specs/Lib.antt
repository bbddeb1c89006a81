pub mod Blocks
pub mod Selectors
pub mod Rules
pub mod Cascade
pub mod Seen
pub mod Steps
pub mod Law
