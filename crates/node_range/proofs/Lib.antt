pub mod Tables
pub mod Programs
pub mod Rows
pub mod Events
pub mod Traces
pub mod Public
