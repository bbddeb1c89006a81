pub mod Fields
pub mod Tree
pub mod Recipients
pub mod HeaderLines
pub mod ReadBoxes
pub mod ReadFields
mod Examples
