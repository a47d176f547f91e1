pub mod ContextLemmas
