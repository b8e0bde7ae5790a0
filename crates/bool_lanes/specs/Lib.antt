pub mod Forced
pub mod KnownNames
pub mod NamedNumbers
pub mod Readings
