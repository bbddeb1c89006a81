pub mod Input
pub mod CodeReferences
pub mod Prefixes
