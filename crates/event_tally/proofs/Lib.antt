pub mod Loops
pub mod Tallies
pub mod Public
