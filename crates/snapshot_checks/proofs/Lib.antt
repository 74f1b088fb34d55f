pub mod IdLaws
pub mod IdProofs
pub mod BytesLaws
pub mod CaseProofs
