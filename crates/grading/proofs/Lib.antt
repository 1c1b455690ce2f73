pub mod Limits
pub mod AgainstCard
