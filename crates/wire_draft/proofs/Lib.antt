pub mod LaidLaws
pub mod TypeLaws
pub mod DraftLaws
pub mod RoundTripProofs
pub mod SixLaws
pub mod WriteLaws
pub mod EmptyProofs
