pub mod Views
pub mod Naming
