pub mod AnswerLemmas
pub mod EscapeLemmas
pub mod FeedLemmas
pub mod LineLemmas
