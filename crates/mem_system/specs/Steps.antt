-- Definitions that only proofs use.
pub mod MemFiles
pub mod LeftFolder
pub mod Kept
pub mod Calls
