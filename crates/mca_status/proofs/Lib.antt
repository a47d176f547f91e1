pub mod RowLemmas
pub mod RoundingLemmas
