pub mod Facts
pub mod Nesting
pub mod Parts
pub mod Mail
mod Examples
mod TextPage
mod Guards
