pub mod Divisor
pub mod Remainder
pub mod Separations
