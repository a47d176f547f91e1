pub mod Links
pub mod Checkpoints
pub mod PayloadReading
pub mod CheckpointReading
pub mod Versions
pub mod Steps
