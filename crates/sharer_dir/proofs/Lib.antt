pub mod Standing
pub mod Directories
pub mod Changed
pub mod Answered
pub mod Clearing
pub mod First
pub mod Appended
