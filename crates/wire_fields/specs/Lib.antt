pub mod FieldList
