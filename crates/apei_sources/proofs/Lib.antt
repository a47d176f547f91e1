pub mod EntryLemmas
pub mod CutLemmas
pub mod HestLemmas
pub mod LookupLemmas
pub mod SourceLemmas
pub mod LaidLemmas
pub mod OwnLemmas
