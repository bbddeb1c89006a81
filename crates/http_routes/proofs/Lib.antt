mod AskExamples
pub mod Looks
pub mod Numbers
pub mod Pieces
pub mod Requests
pub mod Servables
