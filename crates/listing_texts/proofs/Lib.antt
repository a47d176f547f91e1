pub mod CountLemmas
pub mod MetricsLemmas
pub mod ReaderLemmas
pub mod SampleLemmas
