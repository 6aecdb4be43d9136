pub mod Filtered
pub mod InLanes
pub mod Posted
pub mod Charting
