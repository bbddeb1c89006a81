pub mod Slices
pub mod Lents
pub mod Words
pub mod Strings
pub mod Values
pub mod Sets
pub mod Dates
