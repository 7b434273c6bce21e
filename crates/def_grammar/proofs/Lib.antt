pub mod EntrySections
