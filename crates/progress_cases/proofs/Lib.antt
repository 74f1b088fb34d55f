pub mod ShortRuns
pub mod CaseProofs
pub mod WrongWayProofs
