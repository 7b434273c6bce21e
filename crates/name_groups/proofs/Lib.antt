pub mod GroupLaws
pub mod TableLemmas
