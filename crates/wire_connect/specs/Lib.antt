pub mod Connect
pub mod Inner
