pub mod MadeEvents
pub mod OneTick
pub mod QueryFrames
pub mod ReportLines
pub mod ScriptBytes
