pub mod ModeTransitions
