pub mod Factors
pub mod Sizes
pub mod Words
pub mod Codes
