pub mod Compose
pub mod Identities
pub mod Others
