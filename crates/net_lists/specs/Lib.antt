pub mod Building
pub mod Counts
pub mod Heads
pub mod Laws
pub mod NetViews
pub mod PartCuts
