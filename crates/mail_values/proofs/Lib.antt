mod Examples
pub mod Prefixes
pub mod Spellings
