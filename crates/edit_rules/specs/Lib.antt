pub mod ComponentEdits
pub mod Edits
pub mod NameTexts
pub mod NetEdits
pub mod Plans
pub mod Runs
pub mod Script
pub mod SectionEdits
