pub mod OldRule
pub mod ByRule
pub mod Steps
pub mod AddRule
pub mod Cases
