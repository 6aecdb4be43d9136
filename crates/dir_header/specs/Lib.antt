pub mod Sharers
pub mod WordSets
pub mod Plain
pub mod Budgets
pub mod HomeSides
pub mod Standings
pub mod HomeParts
pub mod Codes
