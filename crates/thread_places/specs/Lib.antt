pub mod Nodes
pub mod Links
pub mod Messages
pub mod Numbers
pub mod Dates
pub mod Places
