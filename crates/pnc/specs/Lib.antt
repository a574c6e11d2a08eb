pub mod Pnc
