pub mod ModeSteps
