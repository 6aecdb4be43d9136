pub mod Frees
pub mod Acts
pub mod Runs
pub mod Refusing
