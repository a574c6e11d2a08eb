pub mod TrafficSteps
