pub mod Forms
pub mod Reading
pub mod Traces
pub mod Spelling
pub mod Places
pub mod Printing
pub mod Generated
pub mod CauseNames
