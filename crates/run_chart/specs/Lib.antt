pub mod Charts
pub mod Lettered
