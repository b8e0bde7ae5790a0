pub mod Completions
pub mod ForcedFacts
pub mod NameFacts
pub mod NumberFacts
pub mod Searches
