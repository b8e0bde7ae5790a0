pub mod MapFacts
pub mod MergedClocks
pub mod Numbering
pub mod Timings
