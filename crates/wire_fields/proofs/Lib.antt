pub mod NameLaws
pub mod ReaderProofs
