pub mod Sides
pub mod Ups
pub mod Turned
