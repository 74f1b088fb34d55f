pub mod NameLaws
pub mod TellLaws
pub mod FitLaws
pub mod StepLaws
pub mod StartLaws
pub mod PrintLaws
pub mod CutLaws
pub mod WholeLaws
