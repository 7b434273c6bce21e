pub mod AnyPairs
pub mod Tests
pub mod TouchingShapes
pub mod JoinedLabels
pub mod PartHeads
pub mod Pushing
