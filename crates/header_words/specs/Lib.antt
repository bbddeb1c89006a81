pub mod Lines
pub mod Fields
pub mod Places
pub mod EncodedWords
pub mod Value
pub mod MessageIds
pub mod BaseSubject
