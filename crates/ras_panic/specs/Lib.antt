pub mod Runs
pub mod Panics
pub mod Reports
pub mod Reading
