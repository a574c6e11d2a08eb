pub mod TraceLine
