pub mod LookupViews
pub mod Lying
pub mod NetViews
pub mod SpliceViews
pub mod WiringPlanViews
