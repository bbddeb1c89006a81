pub mod ReaderStates
pub mod ResponseStreams
