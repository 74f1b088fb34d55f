pub mod PartLaws
pub mod EntryRows
pub mod OperationRows
pub mod CutRows
pub mod FirstLaws
