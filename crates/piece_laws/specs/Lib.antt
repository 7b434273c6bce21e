pub mod ChainLaws
pub mod KeyLaws
pub mod PieceLaws
pub mod Pieces
pub mod PlaceLaws
