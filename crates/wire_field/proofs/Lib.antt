pub mod WholeLaws
pub mod FieldLaws
pub mod PresentLaws
