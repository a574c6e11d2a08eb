pub mod HeaderRules
