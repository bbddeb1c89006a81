pub mod Bytes
pub mod Lines
pub mod Units
pub mod Scans
pub mod Cuts
pub mod Fields
pub mod Streams
pub mod Laws
