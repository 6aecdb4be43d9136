pub mod Sent
pub mod Following
pub mod Public
