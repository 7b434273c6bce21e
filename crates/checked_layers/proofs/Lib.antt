pub mod LastLemmas
pub mod LayerLemmas
