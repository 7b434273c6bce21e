pub mod BeginningSteps
pub mod EntrySteps
