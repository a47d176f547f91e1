-- Definitions that only proofs use.
pub mod BoardLaws
pub mod Failures
pub mod FoundFiles
pub mod KeptDevice
pub mod KernelTables
pub mod Listed
pub mod OverCounts
pub mod OverKernel
pub mod Reasons
pub mod Settled
pub mod Telling
pub mod Written
