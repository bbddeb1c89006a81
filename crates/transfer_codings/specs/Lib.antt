pub mod Base64
pub mod Charsets
pub mod Codings
pub mod Quoted
pub mod QuotedRows
