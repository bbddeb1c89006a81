mod Examples
mod BodyExamples
pub mod Finished
pub mod MomentLemmas
pub mod Steps
pub mod WordLemmas
pub mod Unbroken
pub mod WholeLines
pub mod AddressLines
pub mod BodyLines
pub mod MessageLines
pub mod Restored
pub mod Carried
