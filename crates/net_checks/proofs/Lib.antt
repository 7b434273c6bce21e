pub mod HeldParts
pub mod NameLemmas
pub mod LineLemmas
