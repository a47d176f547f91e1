pub mod BelowLemmas
pub mod FrontLemmas
pub mod LaidLemmas
