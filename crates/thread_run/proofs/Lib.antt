pub mod Numbering
pub mod Ended
pub mod Starting
