pub mod DoingLemmas
pub mod ActLemmas
pub mod HistoryLemmas
pub mod DiskModelLemmas
pub mod LeavingLemmas
pub mod MemBoardLemmas
