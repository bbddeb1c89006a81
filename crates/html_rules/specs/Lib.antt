pub mod Tables
pub mod Values
pub mod Tokens
pub mod MessageTokens
pub mod FrameTokens
pub mod Nesting
pub mod Allowed
