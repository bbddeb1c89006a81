pub mod Callers
pub mod Doors
pub mod Series
pub mod Told
