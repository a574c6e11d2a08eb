pub mod ConfigLine
