mod Counting
mod Examples
mod Shown
