pub mod Project
pub mod Sound
