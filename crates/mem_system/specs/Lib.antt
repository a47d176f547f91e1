pub mod SystemCall
pub mod MemSystem
pub mod MemKernel
pub mod Transcript
pub mod Steps
