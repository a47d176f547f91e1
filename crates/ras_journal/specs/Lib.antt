pub mod View
pub mod Fields
pub mod File
pub mod Recovered
pub mod Appending
pub mod Laws
