pub mod RepeatedIds
pub mod Cases
