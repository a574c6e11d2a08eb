pub mod TimeRules
