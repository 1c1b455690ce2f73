pub mod Budget
pub mod Bounds
pub mod Uncut
pub mod Order
pub mod Distance
pub mod AgainstCard
