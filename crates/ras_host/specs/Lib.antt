pub mod Blame
pub mod BoardState
pub mod FolderLeft
pub mod JournalFiles
pub mod LongFiles
pub mod SourceState
pub mod Steps
