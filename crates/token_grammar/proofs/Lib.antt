pub mod Advancing
pub mod Derivations
pub mod Ends
pub mod Following
pub mod Samples
pub mod SyntaxErrors
