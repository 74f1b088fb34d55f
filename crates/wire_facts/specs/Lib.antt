pub mod Cases
pub mod LayoutCases
pub mod Absent
pub mod AbsentCases
pub mod CountCases
