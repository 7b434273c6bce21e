mod BarredFollow
mod BarredNets
mod BlockedLemmas
mod ChangedBars
mod ChangedShapes
mod EntryOrder
mod EntryOwners
mod FollowLemmas
mod HeadLemmas
mod HeadsStay
pub mod KeptStatements
mod LackingLemmas
mod LastOnes
mod ListedNets
mod NearLemmas
mod NearNames
mod NearPairs
mod NetWalls
mod NotBoth
mod NoteLemmas
mod NumberLemmas
mod OneEntry
mod OthersLeft
mod OwnPairs
mod PartedNets
mod PieceLemmas
mod PiecesLeft
mod PinPieces
mod PinsAlone
mod SameParts
mod ShortLines
pub mod StarHeadLemmas
mod StarPairs
mod StarsLeft
pub mod TellLemmas
pub mod TellOneLemmas
mod ToldLemmas
pub mod ToldNets
mod WithinLemmas
