pub mod CaseLemmas
pub mod CauseLemmas
pub mod FilterLemmas
pub mod FolderLemmas
pub mod LeavesLemmas
pub mod OverLemmas
