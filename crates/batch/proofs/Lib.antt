pub mod PlanLaws
pub mod LoopLaws
pub mod RecordProofs
pub mod BatchProofs
