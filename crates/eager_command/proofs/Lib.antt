pub mod Traces
pub mod Played
