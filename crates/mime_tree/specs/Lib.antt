pub mod Body
pub mod Content
pub mod Tree
pub mod Opening
pub mod Best
pub mod Laws
