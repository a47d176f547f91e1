mod HeadLemmas
mod KernelLemmas
pub mod LineLemmas
pub mod MarkLemmas
mod PrintedLemmas
pub mod ReadBackLemmas
mod TextLemmas
mod ToldLemmas
pub mod WholeLemmas
