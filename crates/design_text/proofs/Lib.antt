mod AnyOrder
pub mod ChunkWalks
mod EntriesOnce
mod EntryLists
mod EntryPlaces
mod FewMade
mod FoundNumbers
mod FoundStatements
mod HeaderNumbers
mod KeptDesigns
pub mod KeptExchanges
mod KeptKeys
mod KeyedTexts
mod ListedEntries
mod NamedEntries
mod Opened
mod Pushing
mod ReadPieces
mod ReadTexts
mod SectionEnds
mod StepLemmas
mod TwoCuts
mod ToldKeys
