pub mod Positions
pub mod Rosters
pub mod Admitting
mod Examples
