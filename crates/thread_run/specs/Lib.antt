pub mod Closed
pub mod Ran
