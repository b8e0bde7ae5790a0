pub mod Bytes
pub mod Continued
pub mod Enclosed
pub mod LastLine
pub mod Names
pub mod Row
pub mod Words
