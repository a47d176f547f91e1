-- Definitions that only proofs use.
pub mod Calls
pub mod FolderLemmas
pub mod FolderPastLemmas
pub mod LawLemmas
pub mod Quiet
