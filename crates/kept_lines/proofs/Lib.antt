mod Counts
mod ExchangeLemmas
mod FollowLemmas
mod MergeLemmas
mod OrderLemmas
mod PlaceLemmas
mod TurnLemmas
