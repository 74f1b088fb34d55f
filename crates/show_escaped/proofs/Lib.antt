pub mod EscapeLaws
pub mod UnitLaws
