pub mod Elements
pub mod Paths
pub mod Forms
pub mod Pages
