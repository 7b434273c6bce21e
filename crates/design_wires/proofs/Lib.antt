pub mod ClauseLemmas
pub mod FirstLemmas
pub mod FoundLemmas
pub mod LefWidths
pub mod PlanLemmas
pub mod TableLemmas
pub mod WithinLemmas
