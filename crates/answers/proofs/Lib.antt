pub mod Lines
pub mod Lengths
pub mod AgainstPaper
pub mod Reconciled
