pub mod LoginLemmas
pub mod OwnerLemmas
pub mod EventLemmas
pub mod CallLemmas
pub mod ScriptLaws
pub mod AnswerLaws
