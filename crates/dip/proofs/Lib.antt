pub mod Sorting
pub mod Redip
pub mod Tenths
pub mod AgainstCard
pub mod Formula
