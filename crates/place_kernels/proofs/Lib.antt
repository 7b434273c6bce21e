pub mod Near
pub mod Parts
pub mod PatternLaws
pub mod SiteLaws
pub mod Stars
pub mod Steps
