pub mod Quotients
pub mod Sizable
pub mod Public
