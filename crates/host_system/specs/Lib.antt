pub mod Folder
pub mod FolderPast
pub mod View
pub mod Kernel
pub mod BoardFile
pub mod StoreFile
pub mod Steps
