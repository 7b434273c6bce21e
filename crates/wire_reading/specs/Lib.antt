pub mod EntryLeft
pub mod FoundItems
pub mod ItemsLeft
pub mod NetBegun
pub mod PiecesBy
pub mod WiresLeft
