pub mod Framings
mod HeadExamples
pub mod Rooms
pub mod Scans
