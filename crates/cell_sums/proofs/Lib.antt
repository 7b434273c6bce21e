pub mod GainLemmas
pub mod LengthLemmas
pub mod OrderLemmas
pub mod RectangleLemmas
pub mod BlockLemmas
pub mod CoverLemmas
pub mod TableLemmas
pub mod SheetLemmas
