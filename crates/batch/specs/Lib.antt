pub mod Batch
pub mod Batches
pub mod Inner
