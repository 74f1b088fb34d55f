pub mod Received
pub mod Inner
pub mod NotKept
pub mod KeptCounts
