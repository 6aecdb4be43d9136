pub mod Types
pub mod Line
pub mod Good
pub mod Rows
