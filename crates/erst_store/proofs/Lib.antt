pub mod ReadingLemmas
pub mod DeviceLemmas
pub mod FileLemmas
