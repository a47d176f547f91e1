pub mod Operations
pub mod Answers
pub mod Steps
