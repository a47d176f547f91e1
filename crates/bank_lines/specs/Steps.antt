-- What only proofs use: no public clause refers to it.
pub mod Marks
pub mod Times
pub mod Reading
pub mod Names
