-- Definitions that only proofs use.
pub mod Parts
pub mod Taking
pub mod Reserving
pub mod Refusals
