mod AtEnd
mod Blocks
mod Counted
mod Cut
mod Either
mod Reached
pub mod Theorem
