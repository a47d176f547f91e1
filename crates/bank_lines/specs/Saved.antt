-- The record that Linux saves when it panics: `struct mce`.
pub mod Layout
pub mod Records
pub mod Printing
