pub mod Header
pub mod Descriptors
pub mod Records
pub mod Laid
pub mod Readable
