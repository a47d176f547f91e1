pub mod AcpiTable
pub mod Places
pub mod Prefix
pub mod Bits
pub mod Chaining
pub mod LittleEndian
pub mod Text
pub mod Steps
