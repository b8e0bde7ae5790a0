pub mod Deciding
pub mod Machine
pub mod Texts
