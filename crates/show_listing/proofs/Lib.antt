pub mod FollowLaws
pub mod ListingLaws
pub mod FitLaws
pub mod CaseProofs
pub mod RowTextLaws
