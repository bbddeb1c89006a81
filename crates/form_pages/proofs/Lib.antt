mod Examples
pub mod Free
pub mod Frame
pub mod Written
