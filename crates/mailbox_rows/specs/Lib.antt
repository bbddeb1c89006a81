pub mod Mailboxes
pub mod Rows
