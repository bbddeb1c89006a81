pub mod CookieFields
pub mod Hearing
pub mod Parts
mod ReplyExamples
pub mod Wholes
