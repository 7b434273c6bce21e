mod NetSteps
pub mod PartCounts
pub mod PathCounts
mod RuleLemmas
pub mod TokenCounts
mod WireCounts
