mod Examples
mod Newsletter
mod BestExamples
mod MalformedExamples
pub mod BodyLemmas
pub mod SearchLemmas
pub mod OpeningLemmas
pub mod BestLemmas
pub mod SectionLaws
pub mod TreeLaws
pub mod OpensLaws
pub mod ShownLaws
pub mod LineLaws
pub mod ClearLaws
mod LimitExamples
