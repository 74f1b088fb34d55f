pub mod CaseProofs
pub mod SameLaws
pub mod AbsentProofs
