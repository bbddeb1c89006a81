pub mod PieceLemmas
pub mod NonemptyLemmas
pub mod UidSetLemmas
pub mod ItemLemmas
pub mod ReadingLemmas
pub mod Examples
pub mod ReadingExamples
