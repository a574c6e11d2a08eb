pub mod KeptTicks
