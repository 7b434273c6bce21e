pub mod CaseLemmas
pub mod SortUnique
pub mod Sorting
