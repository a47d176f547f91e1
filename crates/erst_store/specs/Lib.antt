pub mod Store
pub mod StoreFile
pub mod StoreReading
pub mod Device
pub mod Actions
pub mod DeviceLaws
pub mod Steps
