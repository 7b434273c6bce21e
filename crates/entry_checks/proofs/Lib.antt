pub mod ClauseCounts
pub mod JoinLemmas
pub mod OffLayerSteps
pub mod ReportSteps
pub mod SeenSteps
pub mod SpecialWireCounts
