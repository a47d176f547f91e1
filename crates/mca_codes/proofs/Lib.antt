pub mod PatternLemmas
pub mod WordLemmas
pub mod MarkLemmas
