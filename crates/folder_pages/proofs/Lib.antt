pub mod Frame
pub mod Lists
pub mod FolderFrame
pub mod Sorting
pub mod Examples
