-- Definitions that only proofs use.
pub mod Reading
pub mod Looking
pub mod Windows
pub mod Pair
