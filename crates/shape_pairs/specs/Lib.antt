pub mod Pairs
pub mod Steps
pub mod Grids
pub mod Entries
pub mod PairLaws
