pub mod Cases
pub mod WrongWays
