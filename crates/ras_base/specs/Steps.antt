-- Definitions that only proofs use.
pub mod PlacesLemmas
pub mod PrefixLemmas
pub mod LittleEndianLemmas
pub mod ExactLemmas
