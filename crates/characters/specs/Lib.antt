pub mod Characters
pub mod Inner
pub mod Cases
