pub mod Effects
pub mod Following
pub mod Faithful
pub mod Public
