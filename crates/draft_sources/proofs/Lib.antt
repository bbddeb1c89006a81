mod Examples
pub mod Ids
pub mod Restoring
