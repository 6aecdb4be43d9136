pub mod Found
pub mod Slots
pub mod Sets
pub mod Copies
pub mod Writes
pub mod Shares
pub mod Public
