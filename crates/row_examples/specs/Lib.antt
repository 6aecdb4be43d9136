pub mod Types
pub mod Situations
pub mod Machines
