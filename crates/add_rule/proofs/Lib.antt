pub mod VersionLaws
pub mod DeliveryLaws
pub mod RuleLaws
pub mod StepLaws
pub mod AddRuleProofs
pub mod CaseProofs
