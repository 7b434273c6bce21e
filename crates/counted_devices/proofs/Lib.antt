pub mod KnownSteps
pub mod TurnSteps
