mod HeaderLines
mod SectionCounts
