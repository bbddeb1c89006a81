pub mod Remote
pub mod Decides
