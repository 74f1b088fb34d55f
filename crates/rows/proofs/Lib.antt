pub mod EachLaws
pub mod HintLaws
pub mod MoveLaws
pub mod PlaceLaws
pub mod RowLaws
