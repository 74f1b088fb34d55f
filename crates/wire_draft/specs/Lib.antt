pub mod Draft
pub mod Given
pub mod Write
pub mod Reasons
pub mod RoundTrip
pub mod Inner
