pub mod TextLaws
pub mod DecimalLaws
pub mod PageLaws
