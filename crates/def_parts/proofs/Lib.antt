pub mod NumberRanges
