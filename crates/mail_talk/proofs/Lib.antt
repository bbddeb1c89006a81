pub mod UidLemmas
pub mod UnitLemmas
pub mod CutLemmas
pub mod TakeLemmas
pub mod SayLemmas
pub mod CountLemmas
pub mod NumberLemmas
mod ToldExamples
