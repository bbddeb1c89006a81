pub mod TurnLemmas
pub mod NumberLemmas
pub mod EndingLemmas
pub mod PieceLemmas
pub mod SpeakLemmas
pub mod StepLemmas
