mod GridLemmas
mod PlacingSteps
mod PlacingTokens
mod StandingSteps
