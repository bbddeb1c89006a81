pub mod Keepers
pub mod Laws
pub mod Maps
pub mod Records
