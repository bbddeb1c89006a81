pub mod ItemLemmas
pub mod PairLemmas
pub mod ResponseExamples
