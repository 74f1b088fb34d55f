pub mod ConnectLaws
pub mod GuidLaws
