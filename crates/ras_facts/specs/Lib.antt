pub mod Facts
pub mod Reported
pub mod Reports
pub mod Valid
pub mod Entries
pub mod Names
pub mod Steps
