pub mod Sorted
pub mod Lines
pub mod Orders
pub mod Public
