pub mod Pieces
pub mod Content
