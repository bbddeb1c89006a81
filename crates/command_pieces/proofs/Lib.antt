pub mod Examples
pub mod PassLemmas
pub mod PieceLemmas
pub mod CommandLemmas
pub mod ReadLemmas
pub mod VerbLemmas
