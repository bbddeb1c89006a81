pub mod Characters
pub mod Token
pub mod Names
pub mod References
pub mod States
pub mod Rows
pub mod Tokenizer
pub mod Held
