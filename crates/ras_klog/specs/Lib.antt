pub mod Reading
pub mod Groups
pub mod Stages
pub mod Steps
pub mod Texts
pub mod Klog
pub mod Output
pub mod Along
