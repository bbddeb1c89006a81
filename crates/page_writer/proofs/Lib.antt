pub mod Names
pub mod Distinct
pub mod Reading
pub mod Law
pub mod Held
pub mod Bytes
pub mod Opening
pub mod Adding
pub mod Nesting
pub mod Buffers
pub mod Appending
mod Examples
