pub mod BegunLemmas
pub mod BlameLemmas
pub mod JournalLemmas
pub mod KeptLemmas
pub mod LongLemmas
mod ReadLemmas
pub mod ReadingLemmas
pub mod ToldLemmas
mod CountLemmas
mod DiskCallLemmas
