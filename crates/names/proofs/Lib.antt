pub mod NameLaws
pub mod TestLaws
pub mod UnitLaws
