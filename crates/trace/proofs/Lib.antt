pub mod Room
mod Text
