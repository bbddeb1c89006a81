pub mod Asking
pub mod Spoken
pub mod Verbs
pub mod ReadBack
