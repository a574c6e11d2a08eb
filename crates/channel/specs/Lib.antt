pub mod Channel
pub mod Moved
pub mod Told
