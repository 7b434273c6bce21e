pub mod Drawing
pub mod DrawnLengths
pub mod EntryParts
