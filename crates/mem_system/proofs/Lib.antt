mod MemLemmas
mod LeftLemmas
mod TranscriptLemmas
mod CallLemmas
