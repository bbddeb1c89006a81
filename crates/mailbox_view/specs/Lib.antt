pub mod Applied
pub mod Events
pub mod Fetched
pub mod Fetches
pub mod Selections
pub mod View
