pub mod LongDivision
pub mod Rounding
