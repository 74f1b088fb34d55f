pub mod NameLaws
pub mod ReceivedLaws
pub mod RowLaws
pub mod NotKeptProofs
pub mod KeptCountProofs
