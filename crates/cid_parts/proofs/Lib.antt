mod Examples
pub mod Words
pub mod MapLemmas
pub mod Schemes
