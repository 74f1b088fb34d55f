pub mod Names
pub mod Words
pub mod Inner
