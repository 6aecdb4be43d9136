pub mod Sets
pub mod Maps
pub mod Evictions
pub mod Public
