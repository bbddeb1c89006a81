pub mod ListedNames
pub mod WrittenValues
pub mod JoinedStyles
pub mod Allowed
pub mod FirstValues
pub mod Sound
pub mod AsciiValues
pub mod StyleTexts
pub mod SafeReferences
pub mod Digits
pub mod KeepingLemmas
pub mod Rows
mod Examples
