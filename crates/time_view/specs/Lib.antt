pub mod Puts
pub mod Messages
pub mod States
pub mod Stories
