pub mod Queues
pub mod Boxes
