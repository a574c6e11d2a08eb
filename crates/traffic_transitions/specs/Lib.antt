pub mod TrafficTransitions
