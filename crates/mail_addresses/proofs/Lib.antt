mod Examples
pub mod Cuts
pub mod ListLemmas
pub mod QuotedLemmas
