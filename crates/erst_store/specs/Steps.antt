-- Definitions that only proofs use.
pub mod View
pub mod DeviceView
pub mod StoreLemmas
pub mod ActionLemmas
pub mod KeptLemmas
