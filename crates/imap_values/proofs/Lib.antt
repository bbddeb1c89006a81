mod Examples
pub mod WordLemmas
pub mod QuotedLemmas
pub mod ValueLemmas
pub mod SetLemmas
pub mod MarkLemmas
