pub mod Examples
pub mod TextSteps
pub mod Boundaries
pub mod Styles
pub mod RuleSteps
pub mod Last
pub mod Written
pub mod Words
