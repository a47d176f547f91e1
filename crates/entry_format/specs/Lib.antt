pub mod Spelling
pub mod File
pub mod Reading
