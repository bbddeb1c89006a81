pub mod Located
pub mod Refer
pub mod Maps
pub mod Laws
