pub mod CountLaws
pub mod CountLemmas
pub mod ForestLemmas
pub mod LabelLaws
pub mod Rows
