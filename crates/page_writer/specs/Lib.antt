pub mod Page
pub mod Bytes
pub mod Writer
pub mod Writing
pub mod Written
