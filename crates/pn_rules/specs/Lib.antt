pub mod PnRules
