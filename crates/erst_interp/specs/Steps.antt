-- Definitions that only proofs use.
pub mod Lists
pub mod Parts
pub mod Running
