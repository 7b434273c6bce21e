pub mod ClosedForms
pub mod ClosedWiring
pub mod CommentSteps
pub mod TextSteps
pub mod WiringLemmas
pub mod WiringTexts
