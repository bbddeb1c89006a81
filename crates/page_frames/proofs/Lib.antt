pub mod Safe
pub mod Frame
pub mod Law
pub mod Examples
