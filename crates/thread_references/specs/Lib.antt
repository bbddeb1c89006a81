pub mod Trees
pub mod Subjects
pub mod Counts
pub mod Listing
pub mod Rewriting
