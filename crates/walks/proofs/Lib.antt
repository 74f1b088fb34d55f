pub mod Again
pub mod AgainShared
pub mod Relend
pub mod LocalArray
pub mod LentArray
pub mod Says
pub mod BigLit
