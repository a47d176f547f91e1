pub mod Detail
pub mod Sections
pub mod Text
pub mod Reports
pub mod Orders
pub mod OrderRoom
pub mod Unreadable
