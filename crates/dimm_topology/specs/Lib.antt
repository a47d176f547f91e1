pub mod Labels
pub mod Rows
pub mod Refusals
pub mod Owners
pub mod Topology
pub mod Steps
