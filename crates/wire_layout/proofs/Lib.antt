pub mod PairLaws
pub mod LieLaws
pub mod AbsenceLaws
