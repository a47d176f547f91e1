pub mod Each
pub mod Polls
pub mod Steps
