pub mod CallLaws
pub mod DemandProof
pub mod CaseProofs
pub mod ProgressProof
