pub mod AnswersExamples
pub mod DoneExamples
pub mod SafeAnswers
mod SendsExamples
