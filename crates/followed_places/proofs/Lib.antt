mod AnewLemmas
mod BlockedLemmas
mod ComponentLemmas
mod ExchangeLemmas
mod FollowedLemmas
mod HalvesLemmas
pub mod KeepOutLemmas
mod MetLemmas
mod NearSums
mod OthersMet
