pub mod Moments
pub mod Reports
pub mod Machines
pub mod Orders
