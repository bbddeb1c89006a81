pub mod Nesting
pub mod Law
pub mod Elements
pub mod Reversed
pub mod OpenFlags
pub mod Writing
pub mod Distinct
pub mod Starting
pub mod Taking
pub mod StylingLemmas
mod Examples
mod StyleExamples
