-- What only proofs use: no public clause refers to it.
pub mod DeviceLemmas
pub mod TextSteps
pub mod Filtering
