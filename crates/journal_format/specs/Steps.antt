-- Definitions that only proofs use.
pub mod Fronts
pub mod Decoding
