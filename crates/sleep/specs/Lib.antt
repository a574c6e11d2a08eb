pub mod Summary
pub mod Quiet
pub mod Sleep
