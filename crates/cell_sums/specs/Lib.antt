pub mod Covered
pub mod Blocks
pub mod Lines
pub mod Tables
pub mod Sheets
pub mod NotedBlocks
