pub mod Lines
pub mod Refs
pub mod Drafts
pub mod Restored
