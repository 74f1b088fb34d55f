pub mod GuidLaws
pub mod FieldTextLaws
