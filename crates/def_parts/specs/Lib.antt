pub mod ClauseViews
pub mod Numbers
pub mod PointViews
