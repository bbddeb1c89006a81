mod Examples
mod LineCuts
mod Joining
mod Breaks
mod Written
mod ReadBack
mod RoundTrip
mod Stuffing
pub mod Room
