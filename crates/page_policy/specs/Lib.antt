pub mod Buckets
pub mod Rows
pub mod Histories
pub mod Pages
pub mod Steps
