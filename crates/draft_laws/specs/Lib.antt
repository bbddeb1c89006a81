pub mod OneText
pub mod Envelopes
pub mod HeaderLines
