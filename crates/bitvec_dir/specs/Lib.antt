pub mod Bits
pub mod Linkless
