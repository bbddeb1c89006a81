pub mod Sources
pub mod Counts
pub mod Washes
pub mod First
pub mod Scanning
mod Examples
