pub mod PageLemmas
pub mod HistoryLemmas
pub mod OrderLemmas
pub mod WorkedRowLemmas
