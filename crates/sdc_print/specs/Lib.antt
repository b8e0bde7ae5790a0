pub mod Added
pub mod FileLaw
pub mod Pieces
pub mod Runs
