pub mod LinkLemmas
pub mod ArenaLemmas
pub mod NumberLemmas
pub mod DateLemmas
pub mod PlaceLemmas
pub mod GrowLemmas
pub mod ForestLemmas
