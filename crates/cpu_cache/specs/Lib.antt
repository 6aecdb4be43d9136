pub mod Caches
pub mod Slots
pub mod Processors
pub mod Effects
