pub mod Wrote
pub mod Numbers
pub mod Hex
pub mod Examples
