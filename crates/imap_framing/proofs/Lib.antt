pub mod LineLemmas
pub mod StateLemmas
pub mod ScanLemmas
pub mod FieldLemmas
pub mod StreamLemmas
pub mod LawLemmas
pub mod SizeLemmas
mod UnitExamples
