-- Definitions that only proofs use.
pub mod ReaderSteps
pub mod Feeds
pub mod Window
pub mod Places
pub mod InputSteps
