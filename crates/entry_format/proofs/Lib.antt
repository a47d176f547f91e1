pub mod CodecLemmas
pub mod FieldLemmas
pub mod NameFormatLemmas
pub mod EntryLemmas
pub mod LoopLemmas
pub mod BlockLemmas
pub mod FileLemmas
pub mod SizeLemmas
