pub mod NetEntries
pub mod Places
