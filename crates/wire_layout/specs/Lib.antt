pub mod Layout
pub mod Checks
pub mod Stated
pub mod Inner
