pub mod Limits
mod Mask
