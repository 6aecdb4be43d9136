pub mod Below
pub mod Falls
pub mod Deliver
pub mod Public
