pub mod Fields
pub mod Guids
pub mod Memory
pub mod Processor
pub mod X64
pub mod Sections
