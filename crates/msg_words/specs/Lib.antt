pub mod Named
pub mod SendList
pub mod QueueState
