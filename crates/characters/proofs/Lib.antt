pub mod CountLaws
pub mod CaseProofs
