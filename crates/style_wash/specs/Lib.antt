pub mod Characters
pub mod Tables
pub mod Items
pub mod Values
pub mod Declarations
pub mod Seen
pub mod Cuts
