pub mod Places
pub mod Pieces
pub mod Sheet
pub mod Pictures
