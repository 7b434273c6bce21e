mod ArrayTokens
mod ClosedForms
mod Keywords
mod StandLemmas
