pub mod Ascii
pub mod Section
