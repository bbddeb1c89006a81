pub mod Reading
mod Examples
mod RawTextExamples
mod CommentExamples
mod ReferenceExamples
mod EndExamples
pub mod Looks
pub mod Texts
pub mod Pairs
