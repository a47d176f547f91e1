pub mod DeviceLemmas
pub mod EndingLemmas
pub mod PrintLemmas
