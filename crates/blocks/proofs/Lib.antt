pub mod Finished
pub mod Blocks
pub mod Examples
