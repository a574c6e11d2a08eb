pub mod PnLine
