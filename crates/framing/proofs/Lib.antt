pub mod FrameLaws
pub mod FramedProofs
