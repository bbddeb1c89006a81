pub mod Sessions
pub mod Entering
pub mod Pictures
