pub mod EntryLemmas
pub mod LengthLemmas
pub mod PartLemmas
