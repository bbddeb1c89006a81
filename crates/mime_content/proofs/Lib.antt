mod Examples
pub mod PieceLemmas
pub mod ContentLemmas
