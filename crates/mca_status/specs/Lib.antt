pub mod Registers
pub mod Classes
pub mod Weight
pub mod Address
pub mod Thresholds
