-- Definitions that only proofs use.
pub mod Cut
pub mod Answering
