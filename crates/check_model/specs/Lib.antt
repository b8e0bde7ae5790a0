pub mod CheckStops
pub mod Explained
pub mod Findings
