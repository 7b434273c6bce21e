pub mod Apart
pub mod NameViews
pub mod Tables
