mod Blocked
mod ComponentPins
mod NetChanges
mod NetNames
mod NetPins
mod NoNets
mod OneExchanged
mod OneNet
mod PinLines
mod PinsOnce
pub mod Selecting
mod StarNets
mod TellingEntries
mod ToldNets
mod Touched
pub mod Within
