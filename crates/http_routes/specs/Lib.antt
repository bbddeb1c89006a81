pub mod Outcomes
pub mod Routes
pub mod Fields
pub mod Values
pub mod Asks
pub mod Cookies
pub mod Servable
