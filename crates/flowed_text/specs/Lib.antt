pub mod Bytes
pub mod Lines
pub mod Paragraphs
pub mod Flow
pub mod Reading
