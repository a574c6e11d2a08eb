pub mod Passes
pub mod Layouts
