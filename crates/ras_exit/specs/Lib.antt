pub mod Reasons
pub mod Endings
pub mod ExitStatus
pub mod StopLine
pub mod Causes
pub mod Telling
pub mod ScriptEnd
pub mod Acts
