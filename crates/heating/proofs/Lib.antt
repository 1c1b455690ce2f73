pub mod Budget
pub mod Bounds
pub mod Uncut
pub mod Limits
pub mod AgainstCard
