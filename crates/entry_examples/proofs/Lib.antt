pub mod Computing
pub mod EntryTexts
pub mod PlaceEntryRows
pub mod ViaNotes
pub mod WireEntryRows
