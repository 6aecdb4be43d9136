pub mod Chosen
pub mod Made
pub mod Candidates
pub mod Draws
pub mod Runs
