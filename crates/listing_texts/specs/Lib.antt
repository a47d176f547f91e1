pub mod Listing
pub mod Metrics
pub mod MetricsReader
