pub mod ChangeLaws
mod RecordExamples
pub mod RecordLemmas
