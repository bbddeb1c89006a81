pub mod Faults
pub mod Replies
pub mod Receiving
pub mod Requests
pub mod Answering
