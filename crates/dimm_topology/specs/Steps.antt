-- Definitions that only proofs use.
pub mod LabelRoom
pub mod LabelLemmas
pub mod Ranges
pub mod Tables
