pub mod Accounts
pub mod Turned
pub mod Sends
pub mod Served
pub mod Events
pub mod Logins
pub mod Laws
