mod ScriptLemmas
pub mod ReadingLemmas
mod SumLemmas
pub mod FeedLemmas
