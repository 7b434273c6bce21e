pub mod Blocked
pub mod NetChanges
pub mod NetExchanges
pub mod NetsTold
pub mod OneNet
pub mod PinLines
pub mod StarNets
pub mod Within
