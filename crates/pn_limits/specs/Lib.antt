pub mod Limits
pub mod Mask
