pub mod BoolLemmas
pub mod LayerLemmas
pub mod LineLemmas
pub mod PairLemmas
pub mod MeetingLemmas
pub mod NameLemmas
pub mod StepLemmas
