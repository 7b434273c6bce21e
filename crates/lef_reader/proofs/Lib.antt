mod EventLemmas
pub mod FaultLemmas
mod KeptLemmas
mod ToldLemmas
mod WordLemmas
