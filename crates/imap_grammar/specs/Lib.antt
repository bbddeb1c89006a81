pub mod ItemData
pub mod Codes
pub mod Items
pub mod Searches
pub mod Response
