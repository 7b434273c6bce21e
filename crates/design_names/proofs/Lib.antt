pub mod ApartLemmas
pub mod NameLemmas
mod TableLemmas
