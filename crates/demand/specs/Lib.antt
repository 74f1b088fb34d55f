pub mod Calls
pub mod Demand
pub mod Cases
pub mod Progress
