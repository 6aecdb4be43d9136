pub mod Fields
pub mod Contents
pub mod Told
pub mod Named
pub mod Departures
pub mod Public
