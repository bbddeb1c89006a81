pub mod LetterLemmas
pub mod OnceLemmas
pub mod SendLemmas
pub mod DotLemmas
mod SendExamples
