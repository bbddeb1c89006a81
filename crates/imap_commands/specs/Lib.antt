pub mod Bytes
pub mod Pieces
pub mod Commands
pub mod Written
pub mod UidSets
pub mod Items
pub mod CommandGrammar
pub mod ReadBack
