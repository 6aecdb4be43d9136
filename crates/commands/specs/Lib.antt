pub mod Steps
pub mod Runs
pub mod Journaled
pub mod Views
