mod Cells
mod EntryLengths
pub mod FoundNets
mod Measures
