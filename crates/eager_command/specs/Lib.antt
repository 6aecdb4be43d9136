pub mod Outputs
pub mod Played
