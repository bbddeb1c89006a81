pub mod Faults
pub mod FilePaths
pub mod StoredValues
