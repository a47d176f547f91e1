pub mod Filter
pub mod Numbered
pub mod Filters
pub mod Feed
pub mod Pieces
pub mod Feeds
pub mod Steps
