mod CountLemmas
pub mod FollowLemmas
mod NameLemmas
mod SeenLemmas
mod ShownLemmas
mod ViaLemmas
