pub mod EndLemmas
pub mod EscapedLemmas
pub mod OutputLemmas
