-- Definitions that only proofs use.
pub mod ClockLemmas
pub mod DiskLemmas
pub mod MomentLemmas
pub mod MemBoardCalls
pub mod ChangeLemmas
pub mod FileHistory
pub mod History
