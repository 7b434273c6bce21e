mod ComponentSteps
mod LyingLemmas
mod SomeTokens
pub mod LocatedStatements
pub mod LongLemmas
pub mod NetLemmas
pub mod NetPlans
pub mod PinLemmas
pub mod PlaceLemmas
pub mod PlanLemmas
pub mod PutLemmas
pub mod SearchSteps
pub mod SpliceLemmas
pub mod StandingLemmas
pub mod TerminalLemmas
pub mod TokenLemmas
pub mod WiringPlans
