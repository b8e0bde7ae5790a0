pub mod Answers
pub mod CommandLine
pub mod EdgesText
pub mod FaultLine
pub mod ModeFiles
