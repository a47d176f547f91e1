-- What only proofs use: no public clause refers to it.
pub mod Running
pub mod Doing
pub mod Answering
