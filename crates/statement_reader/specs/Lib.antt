pub mod Endings
pub mod Located
pub mod PartViews
pub mod Passing
pub mod ReadingLaws
pub mod StatementViews
