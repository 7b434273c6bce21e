pub mod CoverRows
pub mod PatternRows
pub mod SiteRows
