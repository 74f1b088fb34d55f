pub mod Replay
pub mod Faithful
pub mod Run
pub mod Progress
